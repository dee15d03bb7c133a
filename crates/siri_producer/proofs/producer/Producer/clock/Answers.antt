use Rattle.std.proofs.Common.{false, subst}
use Rattle.siri_model.specs.History.{Clock}
use Rattle.siri_producer.specs.Known.{Known, GoesOn}
use Rattle.siri_producer.specs.Standing.{known_of}
use Rattle.siri_producer.proofs.Stands.{goes_clocked, is_clocked}
use Rattle.siri_producer.proofs.producer.Producer.clock.Goals as goal

pub invariant_of-self : goal.invariant_of-self
invariant_of-self c =
    let inside = c.self.inside in
    is_clocked inside.responder c.clock.new.self inside.table c.expire.new.self c.args.now c.now.result c.now.ensures
    c.expire.ensures.table c.clock.ensures.touched c.self.invariant.numbered inside.is_settled c.clock.ensures.stands
    c.self.invariant.follows

pub returns-clause-stands : goal.returns-clause-stands
returns-clause-stands c =
    let inside = c.self.inside in
    subst (λ (k : Known). GoesOn k (known_of c.clock.new.self c.expire.new.self false) (Clock c.args.now))
    c.self.view_is (goes_clocked inside.responder c.clock.new.self inside.table c.expire.new.self c.args.now
    c.now.result c.now.ensures c.expire.ensures.table c.clock.ensures.touched c.self.invariant.numbered
    inside.is_settled c.clock.ensures.stands)
