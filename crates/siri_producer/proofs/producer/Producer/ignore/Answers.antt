use Rattle.std.proofs.Common.{false, ◌∙◌, subst}
use Rattle.siri_model.specs.History.{Take}
use Rattle.siri_producer.specs.Known.{Known, GoesOn}
use Rattle.siri_producer.specs.Standing.{known_of}
use Rattle.siri_producer.proofs.Takes.{answer_ignored, goes_ignored, some_ignored}
use Rattle.siri_producer.proofs.producer.Producer.ignore.Goals as goal

pub invariant_of-self : goal.invariant_of-self
invariant_of-self c =
    let inside = c.self.inside in
    some_ignored inside.responder inside.table inside.is_settled c.self.invariant

pub returns-clause-stands : goal.returns-clause-stands
returns-clause-stands c = λ m other.
    let inside = c.self.inside in
    subst (λ (k : Known). GoesOn k (known_of inside.responder inside.table false) (Take m)) c.self.view_is
    (goes_ignored inside.responder inside.table inside.is_settled m other)

pub returns-clause-answer : goal.returns-clause-answer
returns-clause-answer c = λ m other h s. c.noted.ensures ∙ answer_ignored c.args.self.now m other h s
