use Rattle.std.proofs.Common.{ap, ◌∙◌, map}
use Rattle.siri_subscriptions.specs.replies.Responses.{termination_response}
use Rattle.siri_subscriptions.specs.Courses.{kept_rows}
use Rattle.siri_subscriptions.specs.Terminations.{termination_answer}
use Rattle.siri_subscriptions.specs.Endings.{sayings, all_said}
use Rattle.siri_subscriptions.proofs.Ended.{ended_statuses}
use Rattle.siri_subscriptions.proofs.terminations.terminate.Goals as goal

pub returns-clause-answer : goal.returns-clause-answer
unfolding termination_answer
returns-clause-answer c =
    let r = c.args.request.now in
    let rows = kept_rows c.args.table.now in
    let said = c.in_ok-endings.ensures ∙ ap (map (sayings r.subscriber_ref)) c.slice.ensures in
    c.termination_response.ensures r.message_identifier c.in_ok-text.ensures
    ∙ ap (termination_response c.args.now r.message_identifier)
    (c.in_ok-statuses.ensures.ok ∙ (ap (λ l. all_said r.message_identifier r.subscriber_ref l rows) said
    ∙ ended_statuses r.message_identifier r.subscriber_ref r.subscription_ref rows))
