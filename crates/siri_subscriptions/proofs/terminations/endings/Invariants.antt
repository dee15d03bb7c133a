use Rattle.std.proofs.Common.{◌≡◌, map, take}
use Rattle.siri_subscriptions.specs.Endings.{sayings_of, sayings}
use Rattle.siri_subscriptions.proofs.terminations.endings.Given as goal

abbrev pub invariant-loop-identifier : goal.invariant-loop-identifier
invariant-loop-identifier l = map sayings_of l.endings.items ≡ map (sayings l.subscriber) (take l.identifier-index l.identifiers)
