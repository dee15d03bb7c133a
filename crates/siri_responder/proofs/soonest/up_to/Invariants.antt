use Rattle.std.proofs.Common.{◌≡◌, ◌++◌, drop}
use Rattle.siri_records.specs.Keyed.{unshared}
use Rattle.siri_responder.specs.Answering as answering
use Rattle.siri_responder.proofs.soonest.up_to.Given as goal

abbrev pub invariant-loop-place : goal.invariant-loop-place
invariant-loop-place l = l.kept ++ answering.up_to_from l.place l.last (drop l.place (unshared l.items)) ≡ answering.up_to l.last (unshared l.items)
