-- What a consumer says of a packet is what the network has of its letter.
use Rattle.std.proofs.Common.{◌≡◌, ◌≢◌, ℕ, Bool, true, false, cond, Option, Some, None, refl, sym, ap, ◌∙◌}
use Rattle.std.specs.Prelude.{slice_get, option_map, option_and_then}
use Rattle.siri_messages.specs.declared.message.Message.{Message}
use Rattle.siri_life.specs.Life.{Mark}
use Rattle.siri_life.specs.Link as life
use Rattle.siri_life.specs.Link.{outcome_of}
use Rattle.siri_life.specs.Named.{Name}
use Rattle.siri_life.specs.laws.Claims as link
use Rattle.siri_life.proofs.Names.{name_same}
use Rattle.siri_model.specs.Meaning.{meaning}
use Rattle.siri_view.specs.Consuming.{Consuming, kept_for, seen_in_delivery, seen_in_notification, told_of, told_of_part}
use Rattle.siri_view.specs.Hearing.{heard}
use Rattle.siri_view.specs.Kept.{HeldSubscription, kept_of}
use Rattle.siri_view.specs.declared.outcome.Outcome.{Outcome}
use Rattle.siri_view.specs.declared.outcome.Outcome.TheVariants as outcome
use Rattle.siri_world_model.specs.Consumers.{consumer_of}
use Rattle.siri_world_model.specs.Packets as packet
use Rattle.siri_world_model.specs.World.{World}
use Rattle.siri_world_model.specs.laws.Claims.{TakesPart, ChangesNoView, ShowsNoGap}
use Rattle.siri_world_model.specs.laws.Letters.{letter_heard, letter_of, moment_in}
use Rattle.siri_world_model.specs.laws.Networks.{WorldNetwork}
use Rattle.siri_world_model.proofs.Well.{IsFor}
use Rattle.siri_world_model.proofs.Consumers.{Stands, letter_at, made_at}
use Rattle.siri_world_model.proofs.Known.{found_named}

-- ---- outcomes

wanted_where_taken : (o : life.Outcome) (h : HeldSubscription) (told : Outcome) → TakesPart (Some (told_of o h told)) → o ≡ life.Wanted
wanted_where_taken life.UnknownSubscription h told is = absurd is
wanted_where_taken life.OldStart h told is = absurd is
wanted_where_taken life.Gap h told is = absurd is
wanted_where_taken life.Repeat h told is = absurd is
wanted_where_taken life.Overlong h told is = absurd is
wanted_where_taken life.Wanted h told is = refl

none_where_ready : (o : life.Outcome) (h : HeldSubscription) → TakesPart (Some (told_of o h outcome.Ready)) → ⊥
none_where_ready life.UnknownSubscription h is = is
none_where_ready life.OldStart h is = is
none_where_ready life.Gap h is = is
none_where_ready life.Repeat h is = is
none_where_ready life.Overlong h is = is
none_where_ready life.Wanted h is = is

no_view : (o : life.Outcome) (h : HeldSubscription) (told : Outcome) → link.ChangesNoView o → ChangesNoView (Some (told_of o h told))
no_view life.UnknownSubscription h told is = tt
no_view life.OldStart h told is = tt
no_view life.Repeat h told is = tt
no_view life.Gap h told is = is
no_view life.Overlong h told is = is
no_view life.Wanted h told is = absurd is

no_gap_told : (o : life.Outcome) (h : HeldSubscription) (told : Outcome) → ShowsNoGap (Some told)
    → (o ≢ life.Gap) × (o ≢ life.Overlong) → ShowsNoGap (Some (told_of o h told))
no_gap_told life.UnknownSubscription h told fine is = tt
no_gap_told life.OldStart h told fine is = tt
no_gap_told life.Repeat h told fine is = tt
no_gap_told life.Gap h told fine is = is.0 refl
no_gap_told life.Overlong h told fine is = is.1 refl
no_gap_told life.Wanted h told fine is = fine

part_told : (more : Bool) (m : Mark) → ShowsNoGap (Some (told_of_part more m))
part_told true m = tt
part_told false m = tt

-- ---- by what is kept

pub taken_wanted : (c : Consuming) (i : Name) (held : Option HeldSubscription) (m : Mark) (more : Bool)
    → TakesPart (Some (seen_in_delivery c i held m more).outcome) → outcome_of meaning held m ≡ life.Wanted
taken_wanted c i None m more is = absurd is
taken_wanted c i (Some h) m more is = wanted_where_taken (life.outcome meaning h m) h (told_of_part more m) is

pub notified_takes_none : (c : Consuming) (i : Name) (held : Option HeldSubscription) (m : Mark)
    → TakesPart (Some (seen_in_notification c i held m).outcome) → ⊥
notified_takes_none c i None m is = is
notified_takes_none c i (Some h) m is = none_where_ready (life.outcome meaning h m) h is

pub changes_none : (c : Consuming) (i : Name) (held : Option HeldSubscription) (m : Mark) (more : Bool)
    → link.ChangesNoView (outcome_of meaning held m) → ChangesNoView (Some (seen_in_delivery c i held m more).outcome)
changes_none c i None m more is = tt
changes_none c i (Some h) m more is = no_view (life.outcome meaning h m) h (told_of_part more m) is

pub delivery_gap : (c : Consuming) (i : Name) (held : Option HeldSubscription) (m : Mark) (more : Bool)
    → (outcome_of meaning held m ≢ life.Gap) × (outcome_of meaning held m ≢ life.Overlong)
    → ShowsNoGap (Some (seen_in_delivery c i held m more).outcome)
delivery_gap c i None m more is = tt
delivery_gap c i (Some h) m more is = no_gap_told (life.outcome meaning h m) h (told_of_part more m) (part_told more m) is

pub notification_gap : (c : Consuming) (i : Name) (held : Option HeldSubscription) (m : Mark)
    → (outcome_of meaning held m ≢ life.Gap) × (outcome_of meaning held m ≢ life.Overlong)
    → ShowsNoGap (Some (seen_in_notification c i held m).outcome)
notification_gap c i None m is = tt
notification_gap c i (Some h) m is = no_gap_told (life.outcome meaning h m) h outcome.Ready tt is

-- ---- by the network

module _ (world : World) (n : WorldNetwork) (stands : Stands world n) where
  -- a packet's letter, and that it is its receiver's
  pub letter_is : (k : ℕ) (receiver : Name) (message : Message)
      → slice_get world.packets k ≡ Some (packet.ToConsumer receiver message)
      → slice_get n.letters k ≡ Some (letter_heard receiver (moment_in message) (heard message))
  letter_is k receiver message there = letter_at world n k stands.1 ∙ ap (option_map letter_of) there

  pub is_for : (k : ℕ) (receiver : Name) (message : Message)
      → slice_get world.packets k ≡ Some (packet.ToConsumer receiver message) → IsFor receiver (heard message)
  is_for k receiver message there = made_at world.packets k (packet.ToConsumer receiver message) stands.0.made there

  -- what is kept of the subscription of a part, by its receiver and in the network
  pub kept_is : (receiver i : Name) (c : Consuming) → consumer_of receiver world.consumers ≡ Some c → n.holdings receiver i ≡ kept_of i c.held
  kept_is receiver i c found = stands.1.holdings receiver i ∙ ap (λ found. option_and_then (λ (d : Consuming). kept_of i d.held) found) found

  pub kept_for_is : (receiver subscriber i : Name) (c : Consuming) → consumer_of receiver world.consumers ≡ Some c
      → subscriber ≡ receiver → kept_for c subscriber i ≡ n.holdings receiver i
  kept_for_is receiver subscriber i c found own =
      ap (λ b. cond b (kept_of i c.held) None) (name_same subscriber c.name (own ∙ sym (found_named receiver world.consumers c found)))
      ∙ sym (kept_is receiver i c found)
