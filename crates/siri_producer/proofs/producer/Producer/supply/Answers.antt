use Rattle.std.proofs.Common.{false, refl, sym, ap, ◌∙◌, subst}
use Rattle.siri_messages.specs.declared.message.Message.TheVariants as message
use Rattle.siri_model.specs.History.{Take}
use Rattle.siri_subscriptions.specs.Courses.{kept_rows}
use Rattle.siri_subscriptions.specs.Supplies.{supply_answer}
use Rattle.siri_producer.specs.declared.answers.Answer.{Answer}
use Rattle.siri_producer.specs.Answers.{supply_note, supply_reply}
use Rattle.siri_producer.specs.Known.{Known, AnswerFor, GoesOn}
use Rattle.siri_producer.specs.Lent.{supplied_by}
use Rattle.siri_producer.specs.Standing.{known_of}
use Rattle.siri_producer.proofs.Lends.{never_all, told_of_all}
use Rattle.siri_producer.proofs.Noted.{looked_numbered}
use Rattle.siri_producer.proofs.Takes.{answer_supplied, goes_supplied, is_taken}
use Rattle.siri_producer.proofs.producer.Producer.supply.Goals as goal

pub invariant_of-self : goal.invariant_of-self
invariant_of-self c =
    let inside = c.self.inside in
    let request = c.args.request.now in
    let after = c.supply_lent.new.table in
    let same = c.supply_lent.ensures.looked in
    let numbered = looked_numbered inside.responder.marks.number inside.table after c.self.invariant.numbered same in
    is_taken inside.responder inside.table inside.is_settled
    (message.DataSupplyRequest request) after c.self.invariant.follows
    (goes_supplied inside.responder inside.table inside.is_settled after c.start-start.result c.now-now.result request
    c.if-request.false c.start-start.ensures c.now-now.ensures c.supply_lent.ensures.rows same) numbered

pub returns-clause-stands : goal.returns-clause-stands
returns-clause-stands c = λ part.
    let inside = c.self.inside in
    let request = c.args.request.now in
    let after = c.supply_lent.new.table in
    subst (λ (k : Known). GoesOn k (known_of inside.responder after false)
    (Take (message.DataSupplyRequest request))) c.self.view_is
    (goes_supplied inside.responder inside.table inside.is_settled after c.start-start.result c.now-now.result request
    part c.start-start.ensures c.now-now.ensures c.supply_lent.ensures.rows c.supply_lent.ensures.looked)

pub returns-clause-supplied : goal.returns-clause-supplied
returns-clause-supplied c = λ h s.
    let inside = c.self.inside in
    let request = c.args.request.now in
    let name = inside.responder.name in
    let answer = supply_answer name c.start-start.result c.now-now.result request (kept_rows inside.table) in
    c.told_of.ensures
    ∙ ap (λ outcome. supplied_by (supply_note outcome)) (c.supply_lent.ensures.outcome name)
    ∙ ap (λ (answer : Answer). supplied_by answer.note)
    (subst (λ (k : Known). AnswerFor k (message.DataSupplyRequest request) (supply_reply answer)) c.self.view_is
    (answer_supplied inside.responder inside.table inside.is_settled name c.start-start.result
    c.now-now.result request answer c.if-request.false refl c.start-start.ensures c.now-now.ensures refl) h s)

pub returns-clause-all_data : goal.returns-clause-all_data
returns-clause-all_data c = (
  (λ is. absurd (never_all c.supply_lent.result (sym c.told_of.ensures ∙ is))),
  (λ has. absurd (cc (has, c.if-request.false))),
)

pub returns-then-request-clause-supplied : goal.returns-then-request-clause-supplied
returns-then-request-clause-supplied c = λ h s.
    sym (told_of_all _ h c.args.request.now c.if-request.true)
