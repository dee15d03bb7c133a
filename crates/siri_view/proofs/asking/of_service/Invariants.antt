use Rattle.std.proofs.Common.{◌≡◌, take}
use Rattle.siri_view.specs.Sending.{of_service}
use Rattle.siri_view.proofs.asking.of_service.Given as goal

abbrev pub invariant-loop-subscription : goal.invariant-loop-subscription
invariant-loop-subscription l = l.these ≡ of_service l.service (take l.subscription-index l.wanted)
