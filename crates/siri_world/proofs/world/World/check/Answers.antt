use Rattle.std.proofs.Common.{[], ◌∷◌, ap, sym, ◌∙◌, option_map}
use Rattle.std.proofs.lemmas.Result.{IfOk-weaker}
use Rattle.siri_world_model.specs.Consumers.{consumer_of}
use Rattle.siri_world_model.specs.Packets.{packets_from}
use Rattle.siri_world.specs.Known.{Known}
use Rattle.siri_world.proofs.Requests.{checked_does}
use Rattle.siri_world.proofs.world.World.check.Goals as goal

pub returns-in_ok-check-in-Some : goal.returns-in_ok-check-in-Some
returns-in_ok-check-in-Some c = IfOk-weaker c.sent.result _ _ (λ happened sent w k.
    let name = c.args.name.now in
    let same = ap (λ (known : Known). known.consumers) c.self.view_is in
    let found = ap (consumer_of name) (sym same) ∙ sym c.get.ensures ∙ ap (option_map (λ consumer. consumer.now)) c.in-Some.is in
    checked_does c.args.self.now w name c.in-Some.consumer.now happened k found sent.0
    (sent.1 ∙ ap (λ m. packets_from name (m ∷ [])) c.in_ok-check-in-Some.ensures)) c.sent.ensures
