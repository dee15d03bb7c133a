use Rattle.std.proofs.Common.{◌≡◌}
use Rattle.siri_view.specs.Consuming.{requests_for}
use Rattle.siri_view.proofs.asked.requests_for.Given as goal

abbrev pub invariant-loop-subscription : goal.invariant-loop-subscription
invariant-loop-subscription l = l.requests.items ≡ requests_for l.address l.beat l.yielded
