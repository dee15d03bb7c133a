use Rattle.std.proofs.Common.{◌≡◌, Some, sym, ap, ◌∙◌}
use Rattle.std.proofs.lemmas.Result.{IfOk-at_ok}
use Rattle.siri_subscriptions.specs.replies.Parts.{all_data_response}
use Rattle.siri_subscriptions.specs.replies.Refusals.{not_renewed_as}
use Rattle.siri_subscriptions.specs.Renewals.{renew_answer, renew_by}
use Rattle.siri_subscriptions.proofs.Renewed.{answered}
use Rattle.siri_subscriptions.proofs.renewals.renew.Goals as goal

pub returns-clause-answer : goal.returns-clause-answer
unfolding renew_answer
returns-clause-answer c =
    let producer = c.args.producer.now in
    let now = c.args.now in
    let number = c.args.request.now.extensions.number in
    let told = c.refusal.result in
    let outcome = c.renumber-outcome.ensures.answer in
    let is = sym c.in_ok-refused.ensures.value ∙ c.in_ok-renewed.ensures in
    let isnt : c.in_ok-refused.refused ≡ all_data_response producer now number (Some (not_renewed_as told)) =
    IfOk-at_ok (λ delivery. delivery ≡ all_data_response producer now number (Some c.of_renumber-why.result))
    c.in_ok-refused.ensures.made c.all_data_response-refused.ensures
    ∙ ap (λ why. all_data_response producer now number (Some why)) c.of_renumber-why.ensures in
    c.answer_as.ensures
    ∙ (answered producer now number c.renumber-outcome.result c.in_ok-refused.renewed c.in_ok-refused.refused told is
    isnt (λ why e. c.refusal.ensures why (sym outcome ∙ e))
    ∙ ap (renew_by producer now number) outcome)
