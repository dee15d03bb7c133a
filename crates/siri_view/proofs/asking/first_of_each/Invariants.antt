use Rattle.std.proofs.Common.{◌≡◌, [], take}
use Rattle.std.specs.Prelude.{fold, map}
use Rattle.siri_view.specs.Sending.{with_first, own}
use Rattle.siri_view.proofs.asking.first_of_each.Given as goal

abbrev pub invariant-loop-subscription : goal.invariant-loop-subscription
invariant-loop-subscription l = l.firsts ≡ fold with_first [] (map (own l.name) (take l.subscription-index l.wanted))
