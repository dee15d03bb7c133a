use Rattle.std.proofs.Common.{ap, ◌∙◌}
use Rattle.std.specs.Map.{keys_of}
use Rattle.siri_change.specs.Changes as change
use Rattle.siri_subscriptions.proofs.LookedWhole.{unlike_are}
use Rattle.siri_subscriptions.proofs.limited.unlike.Goals as goal

pub returns : goal.returns
returns c =
    c.in_ok-keys.ensures
    ∙ (ap keys_of (c.in_ok-changes.ensures ∙ ap (change.changes c.args.view.now) c.in_ok-target.ensures)
    ∙ unlike_are c.args.slack c.args.view.now c.args.direct.now c.view_is_in_order.ensures c.view_is_in_order-2.ensures)
