use Rattle.std.proofs.Common.{◌≡◌, ◌++◌, drop, map}
use Rattle.siri_responder.specs.Answering as answering
use Rattle.std.specs.List.{enumerate_from}
use Rattle.siri_records.specs.Keyed.{unshared}
use Rattle.siri_responder.proofs.soonest.ranks.Given as goal

abbrev pub invariant-loop-place : goal.invariant-loop-place
invariant-loop-place l = l.ranks.items ++ map answering.rank_of
    (enumerate_from l.place (drop l.place (unshared l.items))) ≡ answering.ranks_of (unshared l.items)
