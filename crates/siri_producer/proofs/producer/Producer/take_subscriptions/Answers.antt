use Rattle.std.proofs.Common.{false, ap, ◌∙◌, subst}
use Rattle.siri_messages.specs.Asked.{asked_in}
use Rattle.siri_messages.specs.declared.message.Message.TheVariants as message
use Rattle.siri_model.specs.History.{Take}
use Rattle.siri_producer.specs.declared.answers.Note.TheVariants as note
use Rattle.siri_producer.specs.Answers.{replied}
use Rattle.siri_producer.specs.Known.{Known, GoesOn, AnswerFor}
use Rattle.siri_producer.specs.Standing.{known_of}
use Rattle.siri_producer.proofs.Noted.{asked_numbered}
use Rattle.siri_producer.proofs.Takes.{answer_subscribed, goes_subscribed, is_taken}
use Rattle.siri_producer.proofs.producer.Producer.take_subscriptions.Goals as goal

pub invariant_of-self-2 : goal.invariant_of-self-2
invariant_of-self-2 c =
    let inside = c.self.inside in
    let request = c.args.request.now in
    let after = c.subscribe.new.table in
    let noted = c.in_ok-response.ensures.noted in
    let numbered = asked_numbered inside.responder.marks.number inside.table after c.self.invariant.numbered c.now.result
    request.message_identifier (asked_in request) noted in
    is_taken inside.responder inside.table inside.is_settled
    (message.SubscriptionRequest request) after c.self.invariant.follows
    (goes_subscribed inside.responder inside.table inside.is_settled after c.now.result request c.now.ensures
    c.in_ok-response.ensures.rows noted) numbered

pub returns-clause-takes : goal.returns-clause-takes
returns-clause-takes c =
    let inside = c.self.inside in
    let request = c.args.request.now in
    let after = c.subscribe.new.table in
    let noted = c.in_ok-response.ensures.noted in
    let response = c.in_ok-response.response in
    record {
      ok = subst (λ (k : Known). GoesOn k (known_of inside.responder after false)
          (Take (message.SubscriptionRequest request)))
          c.self.view_is (goes_subscribed inside.responder inside.table inside.is_settled after c.now.result request
          c.now.ensures c.in_ok-response.ensures.rows noted);
      answer = λ h s. c.replied.ensures ∙ subst (λ (k : Known). AnswerFor k (message.SubscriptionRequest request)
          (replied note.Subscribed (message.SubscriptionResponse response))) c.self.view_is
          (answer_subscribed inside.responder inside.table inside.is_settled c.now.result request response c.now.ensures
          c.in_ok-response.ensures.answer) h s;
      err = tt;
      name = ap (λ (k : Known). k.responder.name) c.self.view_is;
    }
