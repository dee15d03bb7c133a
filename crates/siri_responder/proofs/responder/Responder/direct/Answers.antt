use Rattle.std.proofs.Common.{◌≡◌, ◌∙◌, ap}
use Rattle.std.proofs.lemmas.Result.{IfOk-weaker}
use Rattle.siri_messages.specs.declared.deliveries.ServiceDelivery.{ServiceDelivery}
use Rattle.siri_model.specs.Direct.{response}
use Rattle.siri_responder.specs.Known.{Known, ResponseFor}
use Rattle.siri_responder.proofs.Holds.{response_of}
use Rattle.siri_responder.proofs.responder.Responder.direct.Goals as goal

pub returns-clause-ok : goal.returns-clause-ok
returns-clause-ok c =
    let known = c.args.self.now in
    let request = c.args.request.now in
    let inside = c.self.inside in
    let same = ap (λ (k : Known). response k.name k.moment k.held request) c.self.view_is in
    IfOk-weaker c.response_to.result (λ (d : ServiceDelivery).
    d ≡ response inside.name inside.feeding.store.moment inside.feeding.store.entries request)
    (ResponseFor known request)
    (λ d is h s. is ∙ same ∙ response_of known h request s) c.response_to.ensures.ok
