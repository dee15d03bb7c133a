use Rattle.siri_view.specs.Consuming.{held_by}
use Rattle.siri_runs.proofs.consumers.Held.{held_at, not_lost, shown_is}
use Rattle.siri_runs.proofs.consuming.views.shown_at.Goals as goal

pub returns-in_err-held : goal.returns-in_err-held
returns-in_err-held c =
    let at = held_at c.args.consumer.now.held c.args.place c.in_ok-identifier.identifier.now c.len.ensures.ordered c.in_ok-identifier.ensures in
    absurd (not_lost c.args.consumer.now.held c.args.place c.in_ok-identifier.identifier.now held_by at c.in_err-held.ensures)

pub returns : goal.returns
returns c =
    let at = held_at c.args.consumer.now.held c.args.place c.in_ok-identifier.identifier.now c.len.ensures.ordered c.in_ok-identifier.ensures in
    shown_is c.args.consumer.now.held c.args.place c.in_ok-identifier.identifier.now c.in_ok-held.field-0
    c.in_ok-view.field-0.now at c.in_ok-held.ensures c.in_ok-view.ensures
