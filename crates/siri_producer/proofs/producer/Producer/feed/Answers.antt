use Rattle.siri_model.specs.History.{entries_of}
use Rattle.siri_responder.proofs.Reached.{on_err}
use Rattle.siri_producer.proofs.Stands.{fed_ok, fed_some, is_fed}
use Rattle.siri_producer.proofs.Takes.{some_ignored, took_none}
use Rattle.siri_producer.proofs.producer.Producer.feed.Goals as goal

pub invariant_of-self : goal.invariant_of-self
invariant_of-self c =
    let inside = c.self.inside in
    some_ignored inside.responder inside.table inside.is_settled c.self.invariant

-- no memory for the copy, so no entry was taken
pub returns-in_err-delivery-clause-err : goal.returns-in_err-delivery-clause-err
returns-in_err-delivery-clause-err c =
    let inside = c.self.inside in
    let entries = entries_of c.args.delivery.now in
    let result = c.from_residual.result in
    fed_some inside.responder inside.responder inside.table inside.is_settled c.self.invariant.numbered result
    c.args.self.now entries c.self.view_is (on_err result (took_none inside.responder entries))

pub invariant_of-self-2 : goal.invariant_of-self-2
invariant_of-self-2 c =
    let inside = c.self.inside in
    is_fed inside.responder c.feed.new.self inside.table inside.is_settled c.self.invariant.numbered c.feed.result
    (entries_of c.in_ok-delivery.delivery) c.self.invariant.follows c.feed.ensures.ok c.feed.ensures.touched c.feed.ensures.err

pub returns-clause-ok : goal.returns-clause-ok
returns-clause-ok c =
    let inside = c.self.inside in
    let entries = entries_of c.args.delivery.now in
    fed_ok inside.responder c.feed.new.self inside.table inside.is_settled c.self.invariant.numbered c.feed.result
    c.args.self.now entries c.self.view_is (rw c.in_ok-delivery.ensures at c.feed.ensures.ok)
    (rw c.in_ok-delivery.ensures at c.feed.ensures.touched)

pub returns-clause-err : goal.returns-clause-err
returns-clause-err c =
    let inside = c.self.inside in
    let entries = entries_of c.args.delivery.now in
    fed_some inside.responder c.feed.new.self inside.table inside.is_settled c.self.invariant.numbered c.feed.result
    c.args.self.now entries c.self.view_is (rw c.in_ok-delivery.ensures at c.feed.ensures.err)
