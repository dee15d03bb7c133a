-- The steps of a relay's producer, call by call.
use Rattle.std.proofs.Common.{◌≡◌, Bool, true, false, List, [], ◌∷◌, refl, ap, sym, subst}
use Rattle.std.specs.Prelude.{if◌then◌else◌}
use Rattle.siri_messages.specs.declared.message.Message.{Message}
use Rattle.siri_model.specs.History.{Step, Take}
use Rattle.siri_producer.specs.Known.{Known}
use Rattle.siri_view.specs.Consuming.{seen_of}
use Rattle.siri_view.specs.declared.outcome.Outcome.{Outcome}
use Rattle.siri_view.specs.declared.outcome.Outcome.TheVariants as outcome
use Rattle.siri_records.specs.Keyed.{Items}
use Rattle.siri_relay.proofs.ViewKept.{AppliesNothing}
use Rattle.siri_relay.specs.Feeds.{has_room}
use Rattle.siri_relay.specs.Goes.{GoesBy, GoesSome}
use Rattle.siri_relay.specs.Relaying.{KnownRelay, applied_steps, catch_up_steps, down_steps, is_up, take_steps, up_steps, upper_of, view_after, view_of}
use Rattle.siri_relay.proofs.Goings.{goes_none, some_first, some_later}

-- ---- catching up

-- ---- a message, after the relay caught up

-- the relay once it has caught up, with this producer
abbrev pub caught_up : KnownRelay → Known → KnownRelay
caught_up r p = record r { producer = p; fed = view_of r; level = has_room (view_of r) }

-- the steps at a message for the consumer, once nothing is missing
abbrev pub heard_steps : KnownRelay → Message → List Step
heard_steps r m = applied_steps (seen_of r.consumer m).outcome (view_of r) (view_after r m)

chosen_up : (r : KnownRelay) (m : Message) → is_up m ≡ true → up_steps (upper_of r) m ≡ take_steps r m
chosen_up r m up = ap (λ (b : Bool). if b then up_steps (upper_of r) m else down_steps (upper_of r) m) (sym up)

chosen_down : (r : KnownRelay) (m : Message) → is_up m ≡ false → down_steps (upper_of r) m ≡ take_steps r m
chosen_down r m down = ap (λ (b : Bool). if b then up_steps (upper_of r) m else down_steps (upper_of r) m) (sym down)

-- memory was wanting while it caught up
pub caught_some : (r : KnownRelay) (new : Known) (m : Message) → GoesSome r.producer new (catch_up_steps r)
    → GoesSome r.producer new (take_steps r m)
caught_some r new m g = by (is_up m) refl
  where
    by : (b : Bool) → is_up m ≡ b → GoesSome r.producer new (take_steps r m)
    by true up = subst (GoesSome r.producer new) (chosen_up r m up) (some_first r.producer new (catch_up_steps r) (heard_steps r m) g)
    by false down = subst (GoesSome r.producer new) (chosen_down r m down) (some_first r.producer new (catch_up_steps r) (Take m ∷ []) g)

-- and after that
pub up_some : (r mid : KnownRelay) (new : Known) (m : Message) → is_up m ≡ true → mid ≡ caught_up r mid.producer
    → GoesBy r.producer mid.producer (catch_up_steps r) → GoesSome mid.producer new (heard_steps mid m)
    → GoesSome r.producer new (take_steps r m)
up_some r mid new m up same f g =
    let went = subst (λ (k : KnownRelay). GoesSome mid.producer new (heard_steps k m)) same g in
    subst (GoesSome r.producer new) (chosen_up r m up) (some_later r.producer mid.producer new (catch_up_steps r) (heard_steps r m) f went)

pub down_some : (r mid : KnownRelay) (new : Known) (m : Message) → is_up m ≡ false → GoesBy r.producer mid.producer (catch_up_steps r)
    → GoesBy mid.producer new [] → GoesSome r.producer new (take_steps r m)
down_some r mid new m down f g =
    subst (GoesSome r.producer new) (chosen_down r m down)
    (some_later r.producer mid.producer new (catch_up_steps r) (Take m ∷ []) f ([], tt, g))

-- ---- what it answers

-- ---- its consumer

-- ---- a message by which no round is applied

none_applied : (o : Outcome) (before after : Items) → AppliesNothing o → applied_steps o before after ≡ []
none_applied (outcome.Applied round) before after none = absurd none
none_applied outcome.UnknownSubscription before after none = refl
none_applied outcome.OldStart before after none = refl
none_applied (outcome.Gap wanted) before after none = refl
none_applied outcome.Repeat before after none = refl
none_applied outcome.Overlong before after none = refl
none_applied outcome.Ready before after none = refl
none_applied (outcome.Buffered place) before after none = refl
none_applied outcome.Noted before after none = refl
none_applied outcome.NotForMe before after none = refl

pub heard_goes : (r : KnownRelay) (m : Message) → AppliesNothing (seen_of r.consumer m).outcome → GoesBy r.producer r.producer (heard_steps r m)
heard_goes r m none =
    subst (GoesBy r.producer r.producer) (sym (none_applied (seen_of r.consumer m).outcome (view_of r) (view_after r m) none)) (goes_none r.producer)
