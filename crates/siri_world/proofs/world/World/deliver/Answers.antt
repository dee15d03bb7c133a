use Rattle.std.proofs.Common.{◌≡◌, [], ◌∷◌, Some, ap, refl, sym, subst, ◌∙◌, option_map}
use Rattle.std.proofs.lemmas.Result.{IfOk-weaker}
use Rattle.siri_model.specs.History.{History, Take}
use Rattle.siri_producer.specs.Answers.{answer_to}
use Rattle.siri_world_model.specs.Packets.{ToConsumer, ToProducer, packet_at, producer, reply_to}
use Rattle.siri_world.specs.Asking.{ConsumerTakes}
use Rattle.siri_world.specs.Kept.{sent_packet}
use Rattle.siri_world.specs.Known.{Known, Knows, Serves}
use Rattle.siri_world.specs.Serving.{Settles, took_line}
use Rattle.siri_world_model.specs.Consumers.{consumer_of}
use Rattle.siri_world.proofs.Producers.{answered_does}
use Rattle.siri_world.proofs.Requests.{received_does}
use Rattle.siri_world.proofs.world.World.deliver.Goals as goal

pub returns-in-Some : goal.returns-in-Some
returns-in-Some c = IfOk-weaker c.answer.result _ _ (λ happened did w k.
    let old : Known = record {
      moment = c.self.inside.moment;
      starts = c.self.inside.starts;
      producer = c.self.inside.producer;
      consumers = c.self.inside.consumers;
      packets = c.self.inside.packets;
    } in
    let sender = c.in-Some-ToProducer.sender in
    let m = c.in-Some-ToProducer.message.value in
    let packet : packet_at c.args.number c.self.inside.packets ≡ Some (ToProducer sender m) = sym c.at.ensures
    ∙ ap (option_map (λ packet. sent_packet packet.now)) c.in-Some-ToProducer.is
    ∙ ap (λ p. Some (sent_packet p)) c.in-Some-ToProducer.field-0-is in
    let done = subst (λ it. (h : History) → Serves c.in-Some.producer h
    → Settles c.answer.new.producer h (Take it) (took_line (answer_to producer h it) ∷ [])
    (reply_to sender (answer_to producer h it).reply) happened) c.deref.ensures did in
    answered_does old _ w c.args.number sender m c.in-Some.producer c.answer.new.producer happened
    (subst (λ known. Knows known w) (sym c.self.view_is) k) packet c.in-Some.is done refl) c.answer.ensures

pub returns-in-Some-ToConsumer : goal.returns-in-Some-ToConsumer
returns-in-Some-ToConsumer c = IfOk-weaker c.take.result _ _ (λ happened takes w k.
    let old : Known = record {
      moment = c.self.inside.moment;
      starts = c.self.inside.starts;
      producer = c.self.inside.producer;
      consumers = c.self.inside.consumers;
      packets = c.self.inside.packets;
    } in
    let receiver = c.in-Some-ToConsumer.receiver in
    let m = c.in-Some-ToConsumer.message.value in
    let packet : packet_at c.args.number c.self.inside.packets ≡ Some (ToConsumer receiver m) = sym c.at.ensures
    ∙ ap (option_map (λ packet. sent_packet packet.now)) c.in-Some-ToConsumer.is
    ∙ ap (λ p. Some (sent_packet p)) c.in-Some-ToConsumer.field-0-is in
    let took = subst (λ it. ConsumerTakes receiver (consumer_of receiver c.self.inside.consumers) it c.self.inside.consumers
    c.take.new.consumers happened) c.deref-in-Some-ToConsumer.ensures takes in
    received_does old _ w c.args.number receiver m c.take.new.consumers happened
    (subst (λ known. Knows known w) (sym c.self.view_is) k) packet refl took) c.take.ensures
