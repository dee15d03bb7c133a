use Rattle.std.proofs.Common.{◌≡◌}
use Rattle.siri_view.proofs.part.kept_keys.Given as goal

abbrev pub invariant-loop-key : goal.invariant-loop-key
invariant-loop-key l = l.kept ≡ l.yielded
