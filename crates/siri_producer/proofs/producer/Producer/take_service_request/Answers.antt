use Rattle.std.proofs.Common.{false, ap, ◌∙◌, subst}
use Rattle.siri_messages.specs.declared.message.Message.TheVariants as message
use Rattle.siri_model.specs.History.{Take}
use Rattle.siri_producer.specs.declared.answers.Note.TheVariants as note
use Rattle.siri_producer.specs.Answers.{replied}
use Rattle.siri_producer.specs.Known.{Known, GoesOn, AnswerFor}
use Rattle.siri_producer.specs.Standing.{known_of}
use Rattle.siri_producer.proofs.Takes.{answer_asked, goes_asked, is_asked}
use Rattle.siri_producer.proofs.producer.Producer.take_service_request.Goals as goal

pub invariant_of-self-2 : goal.invariant_of-self-2
invariant_of-self-2 c =
    let inside = c.self.inside in
    let request = c.args.request.now in
    is_asked inside.responder inside.table inside.is_settled c.direct.new.self request c.direct.ensures.rest c.self.invariant

pub returns-clause-takes : goal.returns-clause-takes
returns-clause-takes c =
    let inside = c.self.inside in
    let request = c.args.request.now in
    let delivery = c.in_ok-delivery.delivery in
    record {
      ok = subst (λ (k : Known). GoesOn k (known_of c.direct.new.self inside.table false)
          (Take (message.ServiceRequest request))) c.self.view_is
          (goes_asked inside.responder inside.table inside.is_settled c.direct.new.self request c.direct.ensures.rest);
      answer = λ h s. c.replied.ensures ∙ subst (λ (k : Known). AnswerFor k (message.ServiceRequest request)
          (replied note.Asked (message.ServiceDelivery delivery))) c.self.view_is
          (answer_asked inside.responder inside.table inside.is_settled request delivery c.in_ok-delivery.ensures.ok) h s;
      err = tt;
      name = ap (λ k. k.name) c.direct.ensures.rest ∙ ap (λ (k : Known). k.responder.name) c.self.view_is;
    }
