use Rattle.std.proofs.Common.{◌≡◌, ◌++◌, drop}
use Rattle.std.specs.Map.{keys_of}
use Rattle.siri_records.specs.Keyed.{dead_of}
use Rattle.siri_keep.proofs.keys.dead_keys.Given as goal

abbrev pub invariant-loop-place : goal.invariant-loop-place
invariant-loop-place l =
    l.keys.items ++ keys_of (dead_of l.fn.moment (drop l.place l.items)) ≡ keys_of (dead_of l.fn.moment l.fn.items)
