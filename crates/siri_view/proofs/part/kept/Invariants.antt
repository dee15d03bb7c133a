use Rattle.std.proofs.Common.{◌≡◌}
use Rattle.siri_records.specs.Keyed.{unshared}
use Rattle.siri_view.proofs.part.kept.Given as goal

abbrev pub invariant-loop-item : goal.invariant-loop-item
invariant-loop-item l = unshared l.kept.items ≡ l.yielded
