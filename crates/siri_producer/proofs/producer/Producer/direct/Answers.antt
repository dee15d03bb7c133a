use Rattle.std.proofs.Common.{refl}
use Rattle.siri_producer.proofs.Settles.{is_counted}
use Rattle.siri_producer.proofs.producer.Producer.direct.Goals as goal

pub invariant_of-self : goal.invariant_of-self
invariant_of-self c =
    let inside = c.self.inside in
    is_counted inside.responder c.direct.new.self inside.table inside.table inside.is_settled c.direct.ensures.rest refl c.self.invariant
