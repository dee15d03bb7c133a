use Rattle.std.proofs.Common.{◌≡◌, ◌++◌, drop}
use Rattle.siri_records.specs.Keyed.{unshared}
use Rattle.siri_responder.proofs.soonest.shared.Given as goal

abbrev pub invariant-loop-item : goal.invariant-loop-item
invariant-loop-item l = l.shared ++ unshared (drop l.item-index l.items) ≡ unshared l.items
