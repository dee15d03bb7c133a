use Rattle.std.proofs.Common.{ap, ◌∙◌}
use Rattle.siri_change.specs.Changes as change
use Rattle.siri_change.specs.Parts as part
use Rattle.siri_change.proofs.InParts.{load_applied, target_order}
use Rattle.siri_subscriptions.proofs.looks.round_to_open.Goals as goal

pub returns-clause-changes : goal.returns-clause-changes
returns-clause-changes c =
    let wanted = c.args.wanted.now in
    c.in_ok-opening.ensures.changes
    ∙ (c.in_ok-changes.ensures ∙ ap (λ t. part.load c.args.acknowledged.now t wanted.incremental) c.in_ok-target.ensures)

pub returns-clause-leads : goal.returns-clause-leads
returns-clause-leads c =
    let wanted = c.args.wanted.now in
    let acknowledged = c.args.acknowledged.now in
    let direct = c.args.direct.now in
    (λ i. part.led_to acknowledged (c.in_ok-opening.ensures.incremental i) (returns-clause-changes c i))
    ∙ load_applied acknowledged (change.target wanted.slack wanted.incremental acknowledged direct) wanted.incremental
    c.view_is_in_order.ensures
    (target_order wanted.slack wanted.incremental acknowledged direct c.view_is_in_order-2.ensures)
