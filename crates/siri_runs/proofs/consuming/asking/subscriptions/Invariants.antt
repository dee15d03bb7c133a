use Rattle.std.proofs.Common.{◌≡◌, take}
use Rattle.siri_runs.specs.consumers.Consumption as definition
use Rattle.siri_runs.proofs.consuming.asking.subscriptions.Given as goal

abbrev pub invariant-loop-one : goal.invariant-loop-one
invariant-loop-one l = l.list ≡ definition.subscriptions (take l.one-index l.wanted)
