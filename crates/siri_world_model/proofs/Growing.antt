-- Packets are kept for good, and so are consumers.
use Rattle.std.proofs.Common.{◌≡◌, ℕ, Bool, true, false, cond, List, [], ◌∷◌, fold, Option, Some, None, refl, sym, ap, subst}
use Rattle.std.specs.Prelude.{ℤ, nat_lt, option_map, slice_get, if◌then◌else◌}
use Rattle.siri_topic.specs.declared.subscription.Subscription.{Subscription}
use Rattle.siri_messages.specs.declared.message.Message.{Message}
use Rattle.siri_life.specs.Named.{Name, same_name}
use Rattle.siri_life.proofs.Lists.{get_front}
use Rattle.siri_base.specs.Numbers.{greatest_number}
use Rattle.siri_view.specs.Consuming.{Consuming, after_message, after_restart, after_subscribe, after_terminate}
use Rattle.siri_view.specs.Consuming.{clocked, termination_of}
use Rattle.siri_view.specs.Kept.{HeldSubscription, kept_of}
use Rattle.siri_view.specs.declared.outcome.AskError.{AskError}
use Rattle.siri_view.specs.declared.outcome.AskError.TheVariants as ask_error
use Rattle.siri_world_model.specs.declared.event.Event.{Event}
use Rattle.siri_world_model.specs.declared.event.Event.TheVariants as event
use Rattle.siri_world_model.specs.declared.step_error.StepError.{StepError}
use Rattle.siri_world_model.specs.Consumers.{consumer_of, consumer_or_new, with_consumer, all_clocked}
use Rattle.siri_world_model.specs.Effects as effects
use Rattle.siri_world_model.specs.Effects.{Effect, effect, with_packets}
use Rattle.siri_world_model.specs.Lines as line
use Rattle.siri_world_model.specs.Packets as packet
use Rattle.siri_world_model.specs.Packets.{SentPacket, packet_at}
use Rattle.siri_world_model.specs.Told.{after, after_if, refusal}
use Rattle.siri_world_model.specs.World.{World}
use Rattle.siri_world_model.proofs.Known.{found_with, found_clocked}

-- there is one
abbrev pub IsThere : Option Consuming → Type 0
IsThere None = ⊥
IsThere (Some consumer) = Unit {0}

-- a world has what another had: each packet at its place, and each consumer
pub record Grows (new old : World) : Type 0 where
  pub packets : (k : ℕ) (p : SentPacket) → slice_get old.packets k ≡ Some p → slice_get new.packets k ≡ Some p
  pub consumers : (name : Name) → IsThere (consumer_of name old.consumers) → IsThere (consumer_of name new.consumers)

-- what an event does leaves the packets as they were, but for those that it sends
pub record Keeps (e : Effect) (old : World) : Type 0 where
  pub packets : e.world.packets ≡ old.packets
  pub consumers : (name : Name) → IsThere (consumer_of name old.consumers) → IsThere (consumer_of name e.world.consumers)

-- and the producer as it was
pub record KeepsProducer (e : Effect) (old : World) : Type 0 where
  pub keeps : Keeps e old
  pub starts : e.world.starts ≡ old.starts

-- those that leave the producer as it was: a request, which it answers from what it knows, and what consumers are told
abbrev pub keeps_producer : Event → Bool
keeps_producer (event.Start moment) = false
keeps_producer (event.Clock moment) = false
keeps_producer (event.Feed delivery) = false
keeps_producer (event.Deliver number) = false
keeps_producer other = true

keeps_grows : (e : Effect) (old : World) → Keeps e old → Grows (with_packets e) old
keeps_grows e old keeps = record {
  packets = λ k p there. get_front e.world.packets e.packets k p (subst (λ packets. slice_get packets k ≡ Some p) (sym keeps.packets) there);
  consumers = keeps.consumers;
}

there_with : (c : Consuming) (name : Name) (cs : List Consuming) → IsThere (consumer_of name cs) → IsThere (consumer_of name (with_consumer c cs))
there_with c name cs there = subst IsThere (sym (found_with c name cs)) (by (same_name name c.name))
  where
    by : (b : Bool) → IsThere (cond b (Some c) (consumer_of name cs))
    by true = tt
    by false = there

there_clocked : (moment : ℕ) (name : Name) (cs : List Consuming) → IsThere (consumer_of name cs) → IsThere (consumer_of name (all_clocked moment cs))
there_clocked moment name cs there = subst IsThere (sym (found_clocked moment name cs)) (by (consumer_of name cs) there)
  where
    by : (found : Option Consuming) → IsThere found → IsThere (option_map (λ c. clocked c moment) found)
    by None there = there
    by (Some c) there = tt

module _ (world : World) where
  same_keeps : (e : Effect) → e.world ≡ world → KeepsProducer e world
  same_keeps e same = record {
    keeps = record {
      packets = ap (λ (w : World). w.packets) same;
      consumers = λ name there. subst (λ (w : World). IsThere (consumer_of name w.consumers)) (sym same) there;
    };
    starts = ap (λ (w : World). w.starts) same;
  }

  sent_keeps : (c : Consuming) (e : Effect) → e.world ≡ record world { consumers = with_consumer c world.consumers }
      → KeepsProducer e world
  sent_keeps c e same = record {
    keeps = record {
      packets = ap (λ (w : World). w.packets) same;
      consumers = λ name there. subst (λ (w : World). IsThere (consumer_of name w.consumers)) (sym same)
          (there_with c name world.consumers there);
    };
    starts = ap (λ (w : World). w.starts) same;
  }

  subscribe_keeps : (refused : Option AskError) (c : Consuming) (wanted : Subscription) (beat : ℤ)
      → KeepsProducer (effects.subscribed_if refused world c wanted beat) world
  subscribe_keeps (Some error) c wanted beat = sent_keeps c _ refl
  subscribe_keeps None c wanted beat = sent_keeps (after_subscribe c (wanted ∷ []) beat) _ refl

  terminate_keeps : (name identifier : Name) (found : Option Consuming)
      → KeepsProducer (effects.terminated world name identifier found) world
  terminate_keeps name identifier None = same_keeps _ refl
  terminate_keeps name identifier (Some c) = kept (kept_of identifier c.held)
    where
      spent : (b : Bool) → KeepsProducer (if b then effects.tells world (line.Refused c.name ask_error.Spent ∷ [])
          else effects.sent_by world (after_terminate c identifier) [] (termination_of c identifier ∷ [])) world
      spent true = same_keeps _ refl
      spent false = sent_keeps (after_terminate c identifier) _ refl

      kept : (k : Option HeldSubscription) → KeepsProducer (effects.terminated_if world c identifier k) world
      kept None = same_keeps _ refl
      kept (Some k) = spent (nat_lt greatest_number c.next_number)

  restart_keeps : (name : Name) (found : Option Consuming) → KeepsProducer (effects.restarted world name found) world
  restart_keeps name None = same_keeps _ refl
  restart_keeps name (Some c) = by (effects.lacks_numbers c)
    where
      by : (lacks : Bool) → KeepsProducer (effects.restarted_if lacks world c) world
      by true = same_keeps _ refl
      by false = sent_keeps (after_restart c) _ refl

  check_keeps : (name : Name) (found : Option Consuming) → KeepsProducer (effects.checked world name found) world
  check_keeps name None = same_keeps _ refl
  check_keeps name (Some c) = sent_keeps c _ refl

  view_keeps : (name identifier : Name) (found : Option Consuming)
      → KeepsProducer (effects.viewed world name identifier found) world
  view_keeps name identifier None = same_keeps _ refl
  view_keeps name identifier (Some c) = kept (kept_of identifier c.held)
    where
      kept : (k : Option HeldSubscription) → KeepsProducer (effects.viewed_if world c identifier k) world
      kept None = same_keeps _ refl
      kept (Some k) = same_keeps _ refl

  pub taken_keeps : (m : Message) (found : Option Consuming) → KeepsProducer (effects.taken_if world found m) world
  taken_keeps m None = same_keeps _ refl
  taken_keeps m (Some c) = sent_keeps (after_message c m) _ refl

  deliver_keeps : (number : ℕ) (found : Option SentPacket) → Keeps (effects.delivered world number found) world
  deliver_keeps number None = record { packets = refl; consumers = λ name there. there }
  deliver_keeps number (Some (packet.ToProducer sender m)) = record { packets = refl; consumers = λ name there. there }
  deliver_keeps number (Some (packet.ToConsumer receiver m)) =
      (taken_keeps m (consumer_of receiver world.consumers)).keeps

  pub event_keeps_producer : (e : Event) → keeps_producer e ≡ true → KeepsProducer (effect world e) world
  unfolding effect
  event_keeps_producer (event.Ask request) is = same_keeps _ refl
  event_keeps_producer (event.Subscribe name wanted beat) is =
      let c = consumer_or_new world.moment name (consumer_of name world.consumers) in
      subscribe_keeps (effects.ask_refusal c wanted) c wanted beat
  event_keeps_producer (event.Terminate name identifier) is =
      terminate_keeps name identifier (consumer_of name world.consumers)
  event_keeps_producer (event.Restart name) is = restart_keeps name (consumer_of name world.consumers)
  event_keeps_producer (event.Status name) is = check_keeps name (consumer_of name world.consumers)
  event_keeps_producer (event.View name identifier) is = view_keeps name identifier (consumer_of name world.consumers)
  event_keeps_producer other is = absurd (cc)

  event_keeps : (e : Event) → Keeps (effect world e) world
  unfolding effect
  event_keeps (event.Start moment) = record { packets = refl; consumers = λ name there. there_clocked moment name world.consumers there }
  event_keeps (event.Clock moment) = record { packets = refl; consumers = λ name there. there_clocked moment name world.consumers there }
  event_keeps (event.Feed delivery) = record { packets = refl; consumers = λ name there. there }
  event_keeps (event.Deliver number) = deliver_keeps number (packet_at number world.packets)
  event_keeps other = (event_keeps_producer other refl).keeps

  -- no event takes a packet out
  pub packets_stay : (e : Event) → (effect world e).world.packets ≡ world.packets
  packets_stay e = (event_keeps e).packets

  after_grows : (e : Event) → Grows (after world e) world
  after_grows e = by (refusal world e)
    where
      by : (refused : Option StepError) → Grows (after_if refused world e) world
      by (Some error) = record { packets = λ k p there. there; consumers = λ name there. there }
      by None = keeps_grows (effect world e) world (event_keeps e)

-- and so after many events
pub all_grow : (world : World) (es : List Event) → Grows (fold after world es) world
all_grow world [] = record { packets = λ k p there. there; consumers = λ name there. there }
all_grow world (e ∷ es) =
    let later = all_grow (after world e) es in
    let next = after_grows world e in
    record {
      packets = λ k p there. later.packets k p (next.packets k p there);
      consumers = λ name there. later.consumers name (next.consumers name there);
    }
