use Rattle.std.proofs.Common.{false, ap, ◌∙◌, subst}
use Rattle.siri_messages.specs.declared.message.Message.TheVariants as message
use Rattle.siri_model.specs.History.{Take}
use Rattle.siri_producer.specs.declared.answers.Note.{Note}
use Rattle.siri_producer.specs.Answers.{renew_reply, replied}
use Rattle.siri_producer.specs.Known.{Known, GoesOn, AnswerFor}
use Rattle.siri_producer.specs.Standing.{known_of}
use Rattle.siri_producer.proofs.Noted.{renewed_numbered}
use Rattle.siri_producer.proofs.Takes.{answer_renewed, goes_renewed, is_taken}
use Rattle.siri_producer.proofs.producer.Producer.take_all_data_request.Goals as goal

pub invariant_of-self-2 : goal.invariant_of-self-2
invariant_of-self-2 c =
    let inside = c.self.inside in
    let request = c.args.request.now in
    let mark = request.extensions in
    let after = c.renew.new.table in
    let noted = c.in_ok-answer.ensures.noted in
    let numbered = renewed_numbered inside.responder.marks.number inside.table after c.self.invariant.numbered
    c.now-now.result mark.number mark.round request.consumer_ref mark.subscription noted in
    is_taken inside.responder inside.table inside.is_settled
    (message.DataSupplyRequest request) after c.self.invariant.follows
    (goes_renewed inside.responder inside.table inside.is_settled after c.now-now.result request c.requires
    c.now-now.ensures c.in_ok-answer.ensures.rows noted) numbered

pub returns-clause-takes : goal.returns-clause-takes
returns-clause-takes c =
    let inside = c.self.inside in
    let request = c.args.request.now in
    let after = c.renew.new.table in
    let answer = c.in_ok-answer.answer in
    let told : Note → _ = λ note. replied note (message.ServiceDelivery answer.delivery) in
    record {
      ok = subst (λ (k : Known). GoesOn k (known_of inside.responder after false)
          (Take (message.DataSupplyRequest request))) c.self.view_is
          (goes_renewed inside.responder inside.table inside.is_settled after c.now-now.result request c.requires
          c.now-now.ensures c.in_ok-answer.ensures.rows c.in_ok-answer.ensures.noted);
      answer = λ h s. c.replied.ensures
          ∙ ap told c.renew_note.ensures
          ∙ subst (λ (k : Known). AnswerFor k (message.DataSupplyRequest request) (renew_reply answer)) c.self.view_is
          (answer_renewed inside.responder inside.table inside.is_settled c.name-name.result.now c.now-now.result
          request
          answer c.requires c.name-name.ensures c.now-now.ensures c.in_ok-answer.ensures.answer) h s;
      err = tt;
      name = ap (λ (k : Known). k.responder.name) c.self.view_is;
    }
