use Rattle.std.proofs.Common.{ap, ◌∙◌}
use Rattle.siri_messages.specs.Asked.{asked_in}
use Rattle.siri_subscriptions.specs.replies.Responses.{subscription_response}
use Rattle.siri_subscriptions.specs.Courses.{kept_rows}
use Rattle.siri_subscriptions.specs.Noted.{noted_rows}
use Rattle.siri_subscriptions.specs.Requests.{subscription_answer}
use Rattle.siri_subscriptions.specs.Prepared.{all_statuses, all_rows, all_noted}
use Rattle.siri_subscriptions.proofs.Accepted.{answered, rows_answered, noted_answered}
use Rattle.siri_subscriptions.proofs.requests.subscribe.Goals as goal

pub returns-clause-answer : goal.returns-clause-answer
unfolding subscription_answer
returns-clause-answer c =
    let r = c.args.request.now in
    let rows = kept_rows c.args.table.now in
    c.subscription_response.ensures r.message_identifier c.in_ok-text.ensures
    ∙ ap (subscription_response c.args.now r.message_identifier)
    (c.in_ok-statuses.ensures.ok ∙ (ap (λ l. all_statuses c.args.now r.message_identifier l rows)
    c.in_ok-candidates.ensures ∙ answered c.args.now r.message_identifier (asked_in r) rows))

pub returns-clause-rows : goal.returns-clause-rows
returns-clause-rows c =
    let r = c.args.request.now in
    let rows = kept_rows c.args.table.now in
    c.in_ok-statuses.ensures.rows ∙ (ap (λ l. all_rows c.args.now r.message_identifier l rows)
    c.in_ok-candidates.ensures ∙ rows_answered c.args.now r.message_identifier (asked_in r) rows)

pub returns-clause-noted : goal.returns-clause-noted
returns-clause-noted c =
    let r = c.args.request.now in
    let noted = noted_rows c.args.table.now in
    c.in_ok-statuses.ensures.noted ∙ (ap (λ l. all_noted c.args.now r.message_identifier l noted)
    c.in_ok-candidates.ensures ∙ noted_answered c.args.now r.message_identifier (asked_in r) (kept_rows c.args.table.now) noted)
