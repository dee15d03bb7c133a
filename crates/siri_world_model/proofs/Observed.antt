-- After events that all happened the producer knows what was observed since its latest start: the same moment, and the same
-- items are current.
use Rattle.std.proofs.Common.{◌≡◌, ℕ, zero, suc, max, false, List, [], ◌∷◌, ◌++◌, length, fold, Option, Some, None, refl, sym, ap, ◌∙◌, subst}
use Rattle.std.specs.Prelude.{nat_le, unwrap_or}
use Rattle.std.specs.List.{All, last_or}
use Rattle.std.proofs.lemmas.List.Elements.{All-get_or}
use Rattle.std.proofs.lemmas.List.Sums.{fold-append}
use Rattle.std.proofs.lemmas.Option.{slice_get_within, get_or_from_slice_get}
use Rattle.siri_messages.specs.declared.message.Message.{Message}
use Rattle.siri_messages.specs.declared.message.Message.TheVariants as message
use Rattle.siri_model.specs.History.{Step, Start, Clock, Feed, Take, Settle, History, State, after_entry, after_step, entries_fed}
use Rattle.siri_model.specs.History.{entries_of, nothing as nothing_known, state_of}
use Rattle.siri_model.specs.Meaning.{meaning}
use Rattle.siri_model.proofs.Current.{last_appended}
use Rattle.siri_model.proofs.InOrder.{more_steps}
use Rattle.siri_life.specs.Network.{network_after}
use Rattle.siri_world_model.specs.declared.event.Event.{Event}
use Rattle.siri_world_model.specs.declared.event.Event.TheVariants as event
use Rattle.siri_world_model.specs.Consumers.{consumer_of}
use Rattle.siri_world_model.specs.Effects as effects
use Rattle.siri_world_model.specs.Effects.{Effect, effect, with_packets}
use Rattle.siri_world_model.specs.Packets as packet
use Rattle.siri_world_model.specs.Packets.{SentPacket, packet_at}
use Rattle.siri_world_model.specs.Told.{after, after_if, refusal, is_early, world_after}
use Rattle.siri_world_model.specs.World.{World, last_goes_on, latest, nothing}
use Rattle.siri_world_model.specs.laws.Happenings.{happenings}
use Rattle.siri_world_model.proofs.Well.{IsOfConsumer, IsMade}
use Rattle.siri_world_model.specs.laws.Networks.{WorldNetwork}
use Rattle.siri_world_model.specs.laws.Views.{AllHappen, observed, observed_after}
use Rattle.siri_world_model.proofs.Consumers.{Stands}
use Rattle.siri_world_model.proofs.Growing.{KeepsProducer, event_keeps_producer, taken_keeps}
use Rattle.siri_world_model.proofs.Happen.{HappenFrom, happen_rest}
use Rattle.siri_world_model.proofs.Latest.{ends_some}
use Rattle.siri_world_model.proofs.Steps.{not_early, step_stands}
use Rattle.siri_world_model.proofs.Worlds.{network_of, world_stands}

-- ---- states that differ in their start at most

pub record Alike (a b : State) : Type 0 where
  pub now : a.now ≡ b.now
  pub current : a.current ≡ b.current

-- they stay so by the same step
alike_after : (a b : State) (step : Step) → Alike a b → Alike (after_step a step) (after_step b step)
unfolding after_step
alike_after a b (Start number moment) alike = record { now = refl; current = refl }
alike_after a b (Clock moment) alike = record { now = ap (λ now. max now moment) alike.now; current = alike.current }
alike_after a b (Feed entries) alike = record { now = alike.now; current = λ i. fold (after_entry (alike.now i)) (alike.current i) entries }
alike_after a b (Take m) alike = record { now = alike.now; current = λ i. fold (after_entry (alike.now i)) (alike.current i) (entries_fed m) }
alike_after a b Settle alike = alike

-- a message that feeds nothing plays no part
taken_alike : (a b : State) (m : Message) → entries_fed m ≡ [] → Alike a b → Alike (after_step a (Take m)) b
unfolding after_step
taken_alike a b m none alike = record { now = alike.now; current = ap (λ entries. fold (after_entry a.now) a.current entries) none ∙ alike.current }

-- nor does a consumer's
feeds_nothing : (sender : List ℕ) (m : Message) → IsOfConsumer sender m → entries_fed m ≡ []
unfolding IsOfConsumer
feeds_nothing sender (message.SubscriptionRequest r) made = refl
feeds_nothing sender (message.TerminateSubscriptionRequest r) made = refl
feeds_nothing sender (message.DataSupplyRequest r) made = refl
feeds_nothing sender (message.DataReceivedAcknowledgement a) made = refl
feeds_nothing sender (message.DataReadyAcknowledgement a) made = refl
feeds_nothing sender (message.CheckStatusRequest r) made = refl
feeds_nothing sender (message.ServiceRequest r) made = refl
feeds_nothing sender (message.ServiceDelivery d) made = absurd made
feeds_nothing sender (message.SubscriptionResponse r) made = refl
feeds_nothing sender (message.TerminateSubscriptionResponse r) made = refl
feeds_nothing sender (message.DataReadyNotification r) made = refl
feeds_nothing sender (message.CheckStatusResponse r) made = refl
feeds_nothing sender (message.HeartbeatNotification r) made = refl

-- ---- the latest start goes on

-- the latest of some starts
abbrev last_of : List History → History
last_of starts = unwrap_or (last_or None starts) []

-- a step and a settle of the latest
settled_is : (starts : List History) (step : Step) → nat_le (length starts) 0 ≡ false
    → state_of (last_of (last_goes_on (step ∷ Settle ∷ []) starts)) ≡ after_step (state_of (last_of starts)) step
unfolding after_step
settled_is starts step some =
    let e = ends_some starts some in
    ap (λ found. state_of (unwrap_or found [])) (e.later (step ∷ Settle ∷ []))
    ∙ fold-append after_step nothing_known e.history (step ∷ Settle ∷ [])
    ∙ ap (λ found. after_step (state_of (unwrap_or found [])) step) (sym e.latest)

-- ---- events

-- the producer of a world knows this
abbrev pub Knows : World → History → Type 0
Knows world history = Alike (state_of (latest world)) (state_of history)

-- where a step and a settle are the event
steps_known : (world : World) (starts : List History) (step : Step) (seen : History) → nat_le (length starts) 0 ≡ false
    → Alike (after_step (state_of (last_of starts)) step) (state_of seen)
    → Alike (state_of (last_of (last_goes_on (step ∷ Settle ∷ []) starts))) (state_of seen)
steps_known world starts step seen some alike = subst (λ s. Alike s (state_of seen)) (sym (settled_is starts step some)) alike

-- and the same was observed
more_known : (world : World) (step : Step) (seen : History) → nat_le (length world.starts) 0 ≡ false → Knows world seen
    → Alike (state_of (last_of (last_goes_on (step ∷ Settle ∷ []) world.starts))) (state_of (seen ++ step ∷ []))
more_known world step seen some knows =
    steps_known world world.starts step (seen ++ step ∷ []) some
    (subst (λ s. Alike (after_step (state_of (latest world)) step) s) (sym (more_steps seen step))
    (alike_after (state_of (latest world)) (state_of seen) step knows))

start_known : (world : World) (moment : ℕ) (seen : History)
    → Knows (with_packets (effect world (event.Start moment))) (observed_after seen (event.Start moment))
unfolding effect after_step
start_known world moment seen =
    subst (λ found. Alike (state_of (unwrap_or found [])) (state_of (Start 1 moment ∷ [])))
    (sym (last_appended None world.starts (Start (suc (length world.starts)) moment ∷ [])))
    (record { now = refl; current = refl })

-- what leaves the producer as it was
kept_known : (world : World) (e : Effect) (seen : History) → KeepsProducer e world → Knows world seen
    → Knows (with_packets e) seen
kept_known world e seen keeps knows =
    subst (λ (starts : List History). Alike (state_of (last_of starts)) (state_of seen)) (sym keeps.starts) knows

-- a packet that reaches the producer
answered_known : (world : World) (sender : List ℕ) (m : Message) (seen : History)
    → nat_le (length world.starts) 0 ≡ false → IsOfConsumer sender m → Knows world seen
    → Alike (state_of (last_of (last_goes_on (Take m ∷ Settle ∷ []) world.starts))) (state_of seen)
answered_known world sender m seen some made knows =
    steps_known world world.starts (Take m) seen some (taken_alike (state_of (latest world)) (state_of seen) m (feeds_nothing sender m made) knows)

deliver_known : (world : World) (number : ℕ) (seen : History) → nat_le (length world.starts) 0 ≡ false
    → All IsMade world.packets → Knows world seen → Knows (with_packets (effect world (event.Deliver number))) seen
unfolding effect
deliver_known world number seen some made knows = by (packet_at number world.packets) refl
  where
    sent : (number : ℕ) (sender : List ℕ) (m : Message) → packet_at number world.packets ≡ Some (packet.ToProducer sender m) → IsOfConsumer sender m
    sent zero sender m is = absurd (cc)
    sent (suc before) sender m is =
        let p = packet.ToProducer sender m in
        subst IsMade (get_or_from_slice_get world.packets before p p is)
        (All-get_or IsMade world.packets before p (slice_get_within world.packets before p is) made)

    by : (found : Option SentPacket) → packet_at number world.packets ≡ found → Knows (with_packets (effects.delivered world number found)) seen
    by None is = knows
    by (Some (packet.ToProducer sender m)) is = answered_known world sender m seen some (sent number sender m is) knows
    by (Some (packet.ToConsumer receiver m)) is =
        kept_known world _ seen (taken_keeps world m (consumer_of receiver world.consumers)) knows

-- each event that happens
event_known : (world : World) (e : Event) (seen : History) → is_early world e ≡ false → All IsMade world.packets
    → Knows world seen → Knows (with_packets (effect world e)) (observed_after seen e)
unfolding effect
event_known world (event.Start moment) seen late made knows = start_known world moment seen
event_known world (event.Clock moment) seen late made knows = more_known world (Clock moment) seen late knows
event_known world (event.Feed delivery) seen late made knows = more_known world (Feed (entries_of delivery)) seen late knows
event_known world (event.Deliver number) seen late made knows = deliver_known world number seen late made knows
event_known world other seen late made knows =
    kept_known world (effect world other) seen (event_keeps_producer world other refl) knows

-- ---- all events

known_from : (world : World) (n : WorldNetwork) (seen : History) (events : List Event) → Stands world n
    → Knows world seen → HappenFrom world events → Knows (fold after world events) (fold observed_after seen events)
known_from world n seen [] stands knows happen = knows
known_from world n seen (e ∷ events) stands knows happen =
    let none : refusal world e ≡ None = happen [] e events refl in
    known_from (after world e) (network_after meaning (happenings world e) n) (observed_after seen e) events (step_stands world e n stands)
    (subst (λ w. Knows w (observed_after seen e)) (sym (ap (λ refused. after_if refused world e) none))
    (event_known world e seen (not_early world e none) stands.0.made knows))
    (happen_rest world e events happen)

-- the producer knows what was observed since its latest start
pub observed_known : (events : List Event) → AllHappen events → Knows (world_after events) (observed events)
observed_known events happen = known_from nothing (network_of []) [] events (world_stands []) (record { now = refl; current = refl }) happen
