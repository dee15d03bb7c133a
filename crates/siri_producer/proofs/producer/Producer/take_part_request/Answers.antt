use Rattle.std.proofs.Common.{false, ap, ◌∙◌, subst}
use Rattle.siri_messages.specs.declared.message.Message.TheVariants as message
use Rattle.siri_model.specs.History.{Take}
use Rattle.siri_producer.specs.declared.answers.Note.{Note}
use Rattle.siri_producer.specs.Answers.{replied, supply_reply}
use Rattle.siri_producer.specs.Known.{Known, GoesOn, AnswerFor}
use Rattle.siri_producer.specs.Standing.{known_of}
use Rattle.siri_producer.proofs.Noted.{looked_numbered}
use Rattle.siri_producer.proofs.Takes.{answer_supplied, goes_supplied, is_taken}
use Rattle.siri_producer.proofs.producer.Producer.take_part_request.Goals as goal

pub invariant_of-self-2 : goal.invariant_of-self-2
invariant_of-self-2 c =
    let inside = c.self.inside in
    let request = c.args.request.now in
    let after = c.supply.new.table in
    let same = c.in_ok-answer.ensures.looked in
    let numbered = looked_numbered inside.responder.marks.number inside.table after c.self.invariant.numbered same in
    is_taken inside.responder inside.table inside.is_settled
    (message.DataSupplyRequest request) after c.self.invariant.follows
    (goes_supplied inside.responder inside.table inside.is_settled after c.start-start.result c.now-now.result request
    c.requires c.start-start.ensures c.now-now.ensures c.in_ok-answer.ensures.rows same) numbered

pub returns-clause-takes : goal.returns-clause-takes
returns-clause-takes c =
    let inside = c.self.inside in
    let request = c.args.request.now in
    let after = c.supply.new.table in
    let same = c.in_ok-answer.ensures.looked in
    let answer = c.in_ok-answer.answer in
    let told : Note → _ = λ note. replied note (message.ServiceDelivery answer.delivery) in
    record {
      ok = subst (λ (k : Known). GoesOn k (known_of inside.responder after false)
          (Take (message.DataSupplyRequest request))) c.self.view_is
          (goes_supplied inside.responder inside.table inside.is_settled after c.start-start.result c.now-now.result
          request
          c.requires c.start-start.ensures c.now-now.ensures c.in_ok-answer.ensures.rows same);
      answer = λ h s. c.replied.ensures
          ∙ ap told c.supply_note.ensures
          ∙ subst (λ (k : Known). AnswerFor k (message.DataSupplyRequest request) (supply_reply answer)) c.self.view_is
          (answer_supplied inside.responder inside.table inside.is_settled c.name-name.result.now c.start-start.result
          c.now-now.result request answer c.requires c.name-name.ensures c.start-start.ensures c.now-now.ensures
          c.in_ok-answer.ensures.answer) h s;
      err = tt;
      name = ap (λ (k : Known). k.responder.name) c.self.view_is;
    }
