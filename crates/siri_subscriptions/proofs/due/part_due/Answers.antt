use Rattle.std.proofs.Common.{ap, ◌∙◌}
use Rattle.std.proofs.lemmas.Result.{IfOk-weaker}
use Rattle.siri_subs.specs.Lent.{entry_of}
use Rattle.siri_subs.specs.rounds.Wanted.{rounds_carried}
use Rattle.siri_subscriptions.specs.Messages.{message_due}
use Rattle.siri_subscriptions.specs.Openings.{with_opening}
use Rattle.siri_subscriptions.proofs.Carriage.{found_carried}
use Rattle.siri_subscriptions.proofs.due.part_due.Goals as goal

pub returns : goal.returns
returns c =
    let known = c.args.responder.now in
    let row = entry_of c.args.entry.now in
    IfOk-weaker c.message_due.result _ _ (λ message is.
    is
    ∙ (λ i. message_due (c.name.ensures i) (c.start.ensures i) row.wanted row.number (c.now.ensures i)
    (rounds_carried (with_opening (c.now.ensures i) (c.as_ref.ensures.value i) row.slot.rounds)))
    ∙ ap (message_due known.name known.start row.wanted row.number known.moment)
    (found_carried known.moment known.held row c.args.finding.now c.requires)) c.message_due.ensures
