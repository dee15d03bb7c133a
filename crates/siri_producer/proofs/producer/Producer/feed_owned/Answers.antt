use Rattle.siri_model.specs.History.{entries_of}
use Rattle.siri_producer.proofs.Stands.{fed_ok, fed_some, is_fed}
use Rattle.siri_producer.proofs.producer.Producer.feed_owned.Goals as goal

pub invariant_of-self : goal.invariant_of-self
invariant_of-self c =
    let inside = c.self.inside in
    is_fed inside.responder c.feed.new.self inside.table inside.is_settled c.self.invariant.numbered c.feed.result
    (entries_of c.args.delivery) c.self.invariant.follows c.feed.ensures.ok c.feed.ensures.touched c.feed.ensures.err

pub returns-clause-ok : goal.returns-clause-ok
returns-clause-ok c =
    let inside = c.self.inside in
    let entries = entries_of c.args.delivery in
    fed_ok inside.responder c.feed.new.self inside.table inside.is_settled c.self.invariant.numbered c.feed.result
    c.args.self.now entries c.self.view_is c.feed.ensures.ok c.feed.ensures.touched

pub returns-clause-err : goal.returns-clause-err
returns-clause-err c =
    let inside = c.self.inside in
    let entries = entries_of c.args.delivery in
    fed_some inside.responder c.feed.new.self inside.table inside.is_settled c.self.invariant.numbered c.feed.result
    c.args.self.now entries c.self.view_is c.feed.ensures.err
