use Rattle.std.proofs.Common.{◌≡◌, ◌++◌, take, None}
use Rattle.std.specs.Prelude.{map}
use Rattle.siri_view.proofs.part.push_removals.Given as goal

abbrev pub invariant-loop-key : goal.invariant-loop-key
invariant-loop-key l = l.into ≡ l.fn.into ++ map (λ key. (key, None)) (take l.key-index l.keys)
