-- What the producer did, as the effect of an event.
use Rattle.std.proofs.Common.{◌≡◌, ℕ, suc, max, ◌+◌, List, [], ◌∷◌, ◌++◌, length, Option, Some, ap, ◌∙◌, sym, subst, arith, length-append}
use Rattle.siri_life.specs.Named.{Name}
use Rattle.siri_messages.specs.declared.message.Message.{Message}
use Rattle.siri_model.specs.History.{History, Step, Start, Take, Settle}
use Rattle.siri_producer.specs.Known as producing
use Rattle.siri_producer.specs.Answers.{answer_to}
use Rattle.siri_world_model.specs.Consumers.{all_clocked}
use Rattle.siri_world_model.specs.Lines as line
use Rattle.siri_world_model.specs.Lines.{ToldLine, told_lines}
use Rattle.siri_world_model.specs.Packets.{SentPacket, ToProducer, packet_at, producer, reply_to}
use Rattle.siri_world_model.specs.World.{World, latest, goes_on}
use Rattle.siri_world_model.specs.Effects as effects
use Rattle.siri_world_model.specs.Effects.{started, settles}
use Rattle.siri_world.specs.declared.happened.Happened.{Happened}
use Rattle.siri_world.specs.Doing.{Does}
use Rattle.siri_world.specs.Kept.{sent_packets}
use Rattle.siri_world.specs.Known.{Known, Knows, IsLatest, Serves}
use Rattle.siri_world.specs.Serving.{Settles, took_line}
use Rattle.siri_world.proofs.Starts.{goes_length, goes_latest, last_start}

-- ---- a producer and its histories

-- ---- as an effect

-- a start
pub started_does : (old new : Known) (w : World) (known : producing.Known) (number now : ℕ) (happened : Happened)
    → Knows old w → number ≡ old.starts + 1 → producing.StandsFor known (Start number now ∷ [])
    → known.responder.name ≡ producer
    → new ≡ record {
      moment = max old.moment now;
      starts = number;
      producer = Some known;
      consumers = all_clocked now old.consumers;
      packets = old.packets;
    }
    → told_lines happened.lines ≡ line.Started number ∷ [] → happened.packets ≡ [] → Does (started w now) happened new
started_does old new w known number now happened k is stands name new_is lines none =
    let number_is : number ≡ suc (length w.starts) = omega (arith, is, k.starts) in
    let history : History → List History = λ h. w.starts ++ h ∷ [] in
    let long : length (history (Start (suc (length w.starts)) now ∷ [])) ≡ suc (length w.starts) =
    omega (arith, length-append w.starts ((Start (suc (length w.starts)) now ∷ []) ∷ [])) in
    record {
      lines = lines ∙ ap (λ n. line.Started n ∷ []) number_is;
      packets = ap sent_packets none;
      world = subst (λ (known_new : Known). Knows known_new (started w now).world) (sym new_is) (record {
        moment = ap (λ m. max m now) k.moment;
        starts = number_is ∙ sym long;
        producer = (
          omega (arith, long),
          subst (Serves known)
              (sym (last_start w.starts (Start (suc (length w.starts)) now ∷ [])))
              (record {
                name = name;
                stands = subst (λ n. producing.StandsFor known (Start n now ∷ [])) number_is
                    stands;
              }),
        );
        consumers = ap (all_clocked now) k.consumers;
        packets = k.packets;
      });
    }

-- the moment that all know becomes the later
pub passed : (old : Known) (w : World) (now : ℕ) → Knows old w
    → Knows (record old { moment = max old.moment now; consumers = all_clocked now old.consumers })
    (record w { moment = max w.moment now; consumers = all_clocked now w.consumers })
passed old w now k = record {
  moment = ap (λ m. max m now) k.moment;
  starts = k.starts;
  producer = k.producer;
  consumers = ap (all_clocked now) k.consumers;
  packets = k.packets;
}

latest_served : (old : Known) (w : World) (known : producing.Known) → Knows old w → old.producer ≡ Some known → IsLatest (Some known) w.starts
latest_served old w known k is = subst (λ p. IsLatest p w.starts) is k.producer

-- a step and a settle
pub settled_does : (old new : Known) (w : World) (step : Step) (told : History → List ToldLine)
    (before : History → List SentPacket) (known known' : producing.Known) (happened : Happened) → Knows old w
    → old.producer ≡ Some known → ((h : History) → Serves known h → Settles known' h step (told h) (before h) happened)
    → new ≡ record old { producer = Some known' } → Does (settles w step (told (latest w)) (before (latest w))) happened new
settled_does old new w step told before known known' happened k is did new_is =
    let served = latest_served old w known k is in
    let done = did (latest w) served.1 in
    let steps : History = step ∷ Settle ∷ [] in
    record {
      lines = done.lines;
      packets = done.packets;
      world = subst (λ (known_new : Known). Knows known_new (goes_on w steps)) (sym new_is) (record {
        moment = k.moment;
        starts = k.starts ∙ sym (goes_length steps w.starts);
        producer = (omega (arith, served.0, goes_length steps w.starts), subst (Serves known') (sym (goes_latest steps w.starts served.0)) done.serves);
        consumers = k.consumers;
        packets = k.packets;
      });
    }

-- a message of a consumer is taken
pub answered_does : (old new : Known) (w : World) (number : ℕ) (sender : Name) (m : Message)
    (known known' : producing.Known) (happened : Happened) → Knows old w
    → packet_at number old.packets ≡ Some (ToProducer sender m) → old.producer ≡ Some known
    → ((h : History) → Serves known h → Settles known' h (Take m) (took_line (answer_to producer h m) ∷ [])
    (reply_to sender (answer_to producer h m).reply) happened) → new ≡ record old { producer = Some known' }
    → Does (effects.delivered w number (packet_at number w.packets)) happened new
answered_does old new w number sender m known known' happened k packet is did new_is =
    subst (λ (p : Option SentPacket). Does (effects.delivered w number p) happened new) (ap (packet_at number) k.packets)
    (subst (λ (p : Option SentPacket). Does (effects.delivered w number p) happened new) (sym packet)
    (settled_does old new w (Take m) (λ h. took_line (answer_to producer h m) ∷ [])
    (λ h. reply_to sender (answer_to producer h m).reply) known known' happened k is did new_is))
