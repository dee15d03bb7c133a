use Rattle.std.proofs.Common.{◌≡◌, ◌++◌, drop, map}
use Rattle.siri_keep.specs.declared.opening.KeptRequest.{KeptRequest}
use Rattle.siri_keep.proofs.reopening.places_of.Given as goal

abbrev pub invariant-loop-kept : goal.invariant-loop-kept
invariant-loop-kept l =
    l.places ++ map (λ (r : KeptRequest). r.place) (drop l.kept-index l.requests) ≡ map (λ (r : KeptRequest). r.place) l.fn.requests
