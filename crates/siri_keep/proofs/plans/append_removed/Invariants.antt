use Rattle.std.proofs.Common.{◌≡◌, ◌++◌, drop, flat_map}
use Rattle.siri_keeping.specs.Keeping.{removed_at}
use Rattle.siri_keep.proofs.plans.append_removed.Given as goal

abbrev pub invariant-loop-place : goal.invariant-loop-place
invariant-loop-place l =
    l.into ++ flat_map removed_at (drop l.place-index l.places) ≡ l.fn.into ++ flat_map removed_at l.fn.places
