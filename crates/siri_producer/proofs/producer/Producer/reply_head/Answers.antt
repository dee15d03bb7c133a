use Rattle.std.proofs.Common.{◌≡◌, ap, ◌∙◌}
use Rattle.std.proofs.lemmas.Result.{IfOk-weaker}
use Rattle.siri_messages.specs.declared.deliveries.ServiceDelivery.{ServiceDelivery}
use Rattle.siri_model.specs.Direct.{response}
use Rattle.siri_model.specs.History.{History, current, now_of}
use Rattle.siri_producer.specs.Known.{Known, StandsFor}
use Rattle.siri_producer.specs.Lent.{response_head, without_items}
use Rattle.siri_producer.proofs.Lent.{head_is}
use Rattle.siri_producer.proofs.producer.Producer.reply_head.Goals as goal

pub returns : goal.returns
returns c =
    let known = c.args.self.now in
    let request = c.args.request.now in
    let name = c.name.ensures ∙ ap (λ (k : Known). k.responder.name) c.self.view_is in
    let moment = c.now.ensures ∙ ap (λ (k : Known). k.responder.moment) c.self.view_is in
    IfOk-weaker c.response_head.result
    (λ (d : ServiceDelivery). d ≡ response_head c.name.result.now c.now.result request)
    (λ (d : ServiceDelivery). (h : History) → StandsFor known h
    → d ≡ without_items (response known.responder.name (now_of h) (current h) request))
    (λ d is h s. is
    ∙ (λ i. response_head (name i) ((moment ∙ s.responder.moment) i) request)
    ∙ head_is known.responder.name (now_of h) (current h) request)
    c.response_head.ensures
