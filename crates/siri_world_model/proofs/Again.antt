-- A packet changes what its receiver keeps only where it brings a part that is taken, and it brings it once.
use Rattle.std.proofs.Common.{◌≡◌, ℕ, zero, suc, Bool, true, false, cond, List, [], ◌∷◌, ◌++◌, Option, Some, None, refl, sym, ap, ◌∙◌, subst}
use Rattle.std.specs.Prelude.{slice_get, unwrap_or}
use Rattle.std.specs.List.{All}
use Rattle.siri_messages.specs.declared.message.Message.{Message}
use Rattle.siri_life.specs.Named.{Name}
use Rattle.siri_view.specs.Changing.{TakesNothing}
use Rattle.siri_view.specs.Consuming.{Consuming, after_message, seen_of}
use Rattle.siri_view.specs.Kept.{HeldSubscription, kept_of}
use Rattle.siri_view.specs.declared.outcome.Outcome.{Outcome}
use Rattle.siri_view.specs.declared.outcome.Outcome.TheVariants as outcome
use Rattle.siri_view.proofs.Unchanged.{message_same}
use Rattle.siri_world_model.specs.declared.event.Event.{Event}
use Rattle.siri_world_model.specs.declared.event.Event.TheVariants as event
use Rattle.siri_world_model.specs.declared.step_error.StepError.{StepError}
use Rattle.siri_world_model.specs.Consumers.{consumer_of, is_named, with_consumer}
use Rattle.siri_world_model.specs.Effects as effects
use Rattle.siri_world_model.specs.Effects.{effect, view_lines}
use Rattle.siri_world_model.specs.Goals.{goal, rounds_in, target_at}
use Rattle.siri_world_model.specs.Packets as packet
use Rattle.siri_world_model.specs.Packets.{SentPacket, packet_at}
use Rattle.siri_world_model.specs.Told.{after, after_if, refusal, world_after}
use Rattle.siri_world_model.specs.World.{World, start_at}
use Rattle.siri_world_model.specs.laws.Claims.{TakesPart, ChangesNoView, said, said_by, said_of, view_told}
use Rattle.siri_world_model.proofs.Well.{IsOrdered}
use Rattle.siri_world_model.proofs.Known.{found_named, found_ordered}
use Rattle.siri_world_model.proofs.Parts.{once_said}
use Rattle.siri_world_model.proofs.Worlds.{after_more, world_stands}

-- ---- who takes nothing is as before

-- who is found stays where it stands
found_again : (cs : List Consuming) (c : Consuming) → consumer_of c.name cs ≡ Some c → with_consumer c cs ≡ cs
found_again [] c found = absurd (cc)
found_again (x ∷ xs) c found = by (is_named c.name x) found (found_again xs c)
  where
    by : (b : Bool) → cond b (Some x) (consumer_of c.name xs) ≡ Some c
        → (consumer_of c.name xs ≡ Some c → with_consumer c xs ≡ xs) → cond b (c ∷ xs) (x ∷ with_consumer c xs) ≡ x ∷ xs
    by true found rest = let same : c ≡ x = cc in ap (λ y. y ∷ xs) same
    by false found rest = ap (λ ys. x ∷ ys) (rest found)

takes_nothing : (o : Outcome) → (TakesPart (Some o) → ⊥) → TakesNothing o
takes_nothing (outcome.Buffered place) none = none tt
takes_nothing (outcome.Applied round) none = none tt
takes_nothing other none = tt

module _ (world : World) (ordered : All IsOrdered world.consumers) where
  taken_same : (receiver : Name) (message : Message) (found : Option Consuming)
      → consumer_of receiver world.consumers ≡ found → (TakesPart (said_by found message) → ⊥)
      → (effects.taken_if world found message).world.consumers ≡ world.consumers
  taken_same receiver message None is none = refl
  taken_same receiver message (Some c) is none =
      let same : after_message c message ≡ c = message_same c message
      (found_ordered receiver world.consumers c ordered is) (takes_nothing (seen_of c message).outcome none) in
      let named = found_named receiver world.consumers c is in
      ap (λ d. with_consumer d world.consumers) same
      ∙ found_again world.consumers c (subst (λ name. consumer_of name world.consumers ≡ Some c) (sym named) is)

  delivered_same : (number : ℕ) (found : Option SentPacket) → (TakesPart (said_of world found) → ⊥)
      → (effects.delivered world number found).world.consumers ≡ world.consumers
  delivered_same number None none = refl
  delivered_same number (Some (packet.ToProducer sender message)) none = refl
  delivered_same number (Some (packet.ToConsumer receiver message)) none = taken_same receiver message (consumer_of receiver world.consumers) refl none

  after_same : (number : ℕ) → (TakesPart (said world number) → ⊥) → (after world (event.Deliver number)).consumers ≡ world.consumers
  unfolding effect
  after_same number none = by (refusal world (event.Deliver number))
    where
      by : (refused : Option StepError) → (after_if refused world (event.Deliver number)).consumers ≡ world.consumers
      by (Some error) = refl
      by None = delivered_same number (packet_at number world.packets) none

pub other_packets : (events : List Event) (number : ℕ) → (TakesPart (said (world_after events) number) → ⊥)
    → (world_after (events ++ event.Deliver number ∷ [])).consumers ≡ (world_after events).consumers
other_packets events number none =
    ap (λ (w : World). w.consumers) (after_more events (event.Deliver number ∷ []))
    ∙ after_same (world_after events) (world_stands events).0.ordered number none

-- ---- what was taken is taken no more

takes_no_part : (told : Option Outcome) → ChangesNoView told → TakesPart told → ⊥
takes_no_part (Some (outcome.Buffered place)) same takes = same
takes_no_part (Some (outcome.Applied round)) same takes = same
takes_no_part other same takes = takes

pub again_kept : (before later : List Event) (number : ℕ) → refusal (world_after before) (event.Deliver number) ≡ None
    → TakesPart (said (world_after before) number)
    → (world_after (before ++ event.Deliver number ∷ later ++ event.Deliver number ∷ [])).consumers ≡ (world_after
    (before ++ event.Deliver number ∷ later)).consumers
again_kept before later number goes takes =
    let all = before ++ event.Deliver number ∷ later in
    other_packets all number (takes_no_part (said (world_after all) number) (once_said before later number goes takes))

-- ---- and each view is told as before

module _ (world : World) where
  delivered_starts : (number : ℕ) (found : Option SentPacket) → ChangesNoView (said_of world found)
      → (effects.delivered world number found).world.starts ≡ world.starts
  delivered_starts number None same = absurd same
  delivered_starts number (Some (packet.ToProducer sender message)) same = absurd same
  delivered_starts number (Some (packet.ToConsumer receiver message)) same = by (consumer_of receiver world.consumers)
    where
      by : (found : Option Consuming) → (effects.taken_if world found message).world.starts ≡ world.starts
      by None = refl
      by (Some c) = refl

  after_starts : (number : ℕ) → ChangesNoView (said world number) → (after world (event.Deliver number)).starts ≡ world.starts
  unfolding effect
  after_starts number same = by (refusal world (event.Deliver number))
    where
      by : (refused : Option StepError) → (after_if refused world (event.Deliver number)).starts ≡ world.starts
      by (Some error) = refl
      by None = delivered_starts number (packet_at number world.packets) same

module _ (new old : World) (starts : new.starts ≡ old.starts) where
  start_same : (number : ℕ) → start_at number new ≡ start_at number old
  start_same zero = refl
  start_same (suc before) = ap (λ histories. unwrap_or (slice_get histories before) []) starts

  kept_told : (c : Consuming) (identifier : Name) (k : Option HeldSubscription)
      → (effects.viewed_if new c identifier k).lines ≡ (effects.viewed_if old c identifier k).lines
  kept_told c identifier None = refl
  kept_told c identifier (Some k) =
      ap (λ history. view_lines new c identifier k
      (target_at (rounds_in history c.name identifier k.origin.number k.origin.start) k.origin.round))
      (start_same k.origin.start)
      ∙ ap (λ histories. view_lines (record old { starts = histories }) c identifier k (goal old c.name identifier k.origin)) starts

  found_told : (name identifier : Name) (found : Option Consuming)
      → (effects.viewed new name identifier found).lines ≡ (effects.viewed old name identifier found).lines
  found_told name identifier None = refl
  found_told name identifier (Some c) = kept_told c identifier (kept_of identifier c.held)

  told_same : new.consumers ≡ old.consumers → (name identifier : Name) → view_told new name identifier ≡ view_told old name identifier
  told_same consumers name identifier =
      found_told name identifier (consumer_of name new.consumers)
      ∙ ap (λ cs. (effects.viewed old name identifier (consumer_of name cs)).lines) consumers

pub again_told : (before later : List Event) (number : ℕ) → refusal (world_after before) (event.Deliver number) ≡ None
    → TakesPart (said (world_after before) number) → (consumer identifier : Name)
    → view_told (world_after (before ++ event.Deliver number ∷ later ++ event.Deliver number ∷ [])) consumer
    identifier ≡ view_told (world_after (before ++ event.Deliver number ∷ later)) consumer identifier
again_told before later number goes takes consumer identifier =
    let all = before ++ event.Deliver number ∷ later in
    told_same (world_after (all ++ event.Deliver number ∷ [])) (world_after all)
    (ap (λ (w : World). w.starts) (after_more all (event.Deliver number ∷ []))
    ∙ after_starts (world_after all) number (once_said before later number goes takes))
    (again_kept before later number goes takes) consumer identifier
