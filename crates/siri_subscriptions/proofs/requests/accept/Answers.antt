use Rattle.std.proofs.Common.{◌∙◌, refl}
use Rattle.siri_subscriptions.specs.Prepared.{asked_by}
use Rattle.siri_subscriptions.proofs.Accepted.{status_kept, rows_kept, noted_kept}
use Rattle.siri_subscriptions.proofs.requests.accept.Goals as goal

pub returns-clause-status : goal.returns-clause-status
returns-clause-status c =
    let candidate = c.args.candidate in
    c.candidate_status.ensures
    ∙ status_kept c.args.now c.args.number candidate c.new-course.result c.args.table.now
    (c.new-course.ensures.kept (asked_by candidate) refl) c.accept-answer.result c.accept-answer.ensures.answer
    c.termination_held-termination.result c.termination_held-termination.ensures

pub returns-clause-rows : goal.returns-clause-rows
returns-clause-rows c =
    let candidate = c.args.candidate in
    rows_kept c.args.now c.args.number candidate c.new-course.result c.args.table.now
    (c.new-course.ensures.kept (asked_by candidate) refl) c.accept-answer.new.self c.accept-answer.ensures.table

pub returns-clause-noted : goal.returns-clause-noted
returns-clause-noted c =
    let candidate = c.args.candidate in
    noted_kept c.args.now c.args.number candidate c.new-course.result c.args.table.now
    (c.new-course.ensures.kept (asked_by candidate) refl) c.new-course.ensures.looked c.accept-answer.new.self
    c.accept-answer.ensures.table
