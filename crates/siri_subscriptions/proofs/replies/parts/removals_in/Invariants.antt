use Rattle.std.proofs.Common.{◌≡◌, ◌++◌, drop}
use Rattle.siri_change.specs.Parts.{carried}
use Rattle.siri_subscriptions.proofs.replies.parts.removals_in.Given as goal

abbrev pub invariant-loop-change : goal.invariant-loop-change
invariant-loop-change l = l.removals ++ (carried (drop l.change-index l.changes)).removals ≡ (carried l.changes).removals
