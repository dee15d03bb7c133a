-- What a producer sends at a settle, row by row of its table, as letters.
use Rattle.std.proofs.Common.{◌≡◌, ℕ, ◌<◌, ◌≤◌, List, [], ◌∷◌, ◌++◌, length, get_or, Bool, true, false, cond, Option, None, Some, refl, sym}
use Rattle.std.proofs.Common.{ap, ◌∙◌, subst, append_assoc, arith, ◌⊎◌, inl, inr}
use Rattle.std.specs.Prelude.{slice_get, option_map, if◌then◌else◌}
use Rattle.std.specs.List.{All, AllByRecursion}
use Rattle.std.proofs.lemmas.List.{map-append}
use Rattle.std.proofs.lemmas.List.Elements.{All-append, All-cons, All-nil}
use Rattle.std.proofs.lemmas.Option.{slice_get_cases}
use Rattle.siri_records.specs.Keyed.{Items}
use Rattle.siri_topic.specs.declared.subscription.Subscription.{Subscription}
use Rattle.siri_messages.specs.Asked.{AskedFor}
use Rattle.siri_messages.specs.declared.message.Message.{Message}
use Rattle.siri_messages.specs.declared.message.Message.TheVariants as message
use Rattle.siri_change.specs.Parts.{Carried}
use Rattle.siri_subs.specs.declared.entry.Row.{Row}
use Rattle.siri_life.specs.Life.{Outstanding, Packet, due_messages, is_due, message_if, message_by, message as message_for, opened}
use Rattle.siri_life.specs.Life.{opened_at, opened_if, new_round, part_message, sends_heartbeat, settle_sends, wants_round}
use Rattle.siri_life.specs.Named.{Name, Of}
use Rattle.siri_life.specs.Serving.{heartbeat_letters, letters_for, row_letters}
use Rattle.siri_life.specs.Slot.{begun, is_message_due, is_message_due_of, opens_round, slot_of}
use Rattle.siri_life.proofs.Slots.{slot_begins}
use Rattle.siri_model.specs.Direct.{direct_to}
use Rattle.siri_model.specs.History.{History}
use Rattle.siri_model.specs.Lives.{Living}
use Rattle.siri_model.specs.Meaning.{direct_of, meaning}
use Rattle.siri_model.specs.Rows.{KeptLife, asked_of, is_heartbeat_due, looked, row_of, rows_of}
use Rattle.siri_model.proofs.Serves.{AreNamed, IsNamed}
use Rattle.siri_subs.specs.rounds.Wanted.{KeptRounds, WantedPart, wanted_in, wanted_part, wanted_part_of}
use Rattle.siri_subscriptions.specs.replies.Parts.{part_delivery, part_notification}
use Rattle.siri_subscriptions.specs.replies.Statuses.{heartbeat}
use Rattle.siri_subscriptions.specs.declared.outs.Out.{Out}
use Rattle.siri_subscriptions.specs.Messages.{message_due, message_of}
use Rattle.siri_subscriptions.specs.Sends.{At, heartbeat_due, out_of, outs_with, part_due, row_sends, table_sends}
use Rattle.siri_world_model.specs.Packets.{ToConsumer, packets_out}
use Rattle.siri_world_model.specs.laws.Letters.{Letter, letter_to_consumer, letters_of}
use Rattle.siri_world_model.proofs.Well.{IsMade, IsShort}
use Rattle.siri_world_model.proofs.Lives.{HasPart, look_goes}
use Rattle.siri_world_model.proofs.Messages.{delivery_letter, delivery_made, notification_letter}
use Rattle.siri_world_model.proofs.Standing.{IsOf}
use Rattle.siri_world_model.proofs.Tables.{AllLive}

-- ---- letters of messages

-- a message to a consumer, if there is one
abbrev letters_with : Name → Option Message → List Letter
letters_with receiver None = []
letters_with receiver (Some m) = letter_to_consumer receiver m ∷ []

with_is : (row : Row KeptLife) (m : Option Message) → letters_of (packets_out (outs_with row m)) ≡ letters_with row.wanted.subscriber m
with_is row None = refl
with_is row (Some m) = refl

letters_join : (xs ys : List Out) → letters_of (packets_out (xs ++ ys)) ≡ letters_of (packets_out xs) ++ letters_of (packets_out ys)
letters_join [] ys = refl
letters_join (x ∷ xs) ys = ap (λ rest. letter_to_consumer x.to x.message ∷ rest) (letters_join xs ys)

-- a place where there is nothing is past the end
past : {X : Type 0} (xs : List X) (i : ℕ) → slice_get xs i ≡ None → length xs ≤ i
past xs i none = by (slice_get_cases xs i).1
  where
    by : ((x : _) × (i < length xs) × (slice_get xs i ≡ Some x) × (get_or xs i x ≡ x)) ⊎ ((length xs ≤ i) × (slice_get xs i ≡ None)) → length xs ≤ i
    by (inl here) = absurd (let some = here.2 in cc)
    by (inr beyond) = beyond.0

-- ---- the message of the wanted part

module _ (producer : List ℕ) (l : Living) (now : ℕ) (small : l.number < 1000000000000000000) where
  abbrev wanted : Subscription
  wanted = l.wanted.subscription

  abbrev parts_for : List (Packet Carried AskedFor) → List Letter
  parts_for packets = letters_for meaning wanted.subscriber wanted.identifier packets

  -- of this part, fetched or not
  part_letter : (o : Outstanding Items Carried) (part : Carried) (fetched : Bool)
      → letter_to_consumer wanted.subscriber (if fetched then message.DataReadyNotification
      (part_notification producer wanted l.number l.start (wanted_in (length l.rounds) o part))
      else message.ServiceDelivery (part_delivery producer wanted l.number l.start
      (wanted_in (length l.rounds) o part))) ∷ []
      ≡ parts_for (cond fetched (message_by meaning true l o) (part_message meaning l o (Some part)))
  part_letter o part true = ap (λ letter. letter ∷ []) (notification_letter producer wanted l.number l.start (wanted_in (length l.rounds) o part))
  part_letter o part false = ap (λ letter. letter ∷ []) (delivery_letter producer wanted l.number l.start (wanted_in (length l.rounds) o part) small)

  -- which is there
  there : (o : Outstanding Items Carried) (part : Carried) → slice_get o.round.parts o.acknowledged_parts ≡ Some part
      → (fetched : Bool) → cond fetched (message_by meaning true l o) (part_message meaning l o (Some part)) ≡ message_by meaning fetched l o
  there o part is true = refl
  there o part is false = ap (part_message meaning l o) (sym is)

  outstanding_letters : (o : Outstanding Items Carried) → o.acknowledged_parts < length o.round.parts
      → letters_with wanted.subscriber (option_map (message_of producer l.start wanted l.number)
      (wanted_part_of (length l.rounds) (Some o))) ≡ parts_for (message_for meaning l o)
  outstanding_letters o has = by (slice_get o.round.parts o.acknowledged_parts) refl
    where
      by : (part : Option Carried) → slice_get o.round.parts o.acknowledged_parts ≡ part
          → letters_with wanted.subscriber (option_map (message_of producer l.start wanted l.number)
          (option_map (wanted_in (length l.rounds) o) part)) ≡ parts_for (message_for meaning l o)
      by None is = absurd (omega (arith, past o.round.parts o.acknowledged_parts is, has))
      by (Some part) is = part_letter o part wanted.fetched ∙ ap parts_for (there o part is wanted.fetched)

  pub due_letters : HasPart l.outstanding → letters_with wanted.subscriber
      (message_due producer l.start wanted l.number now (slot_of meaning l)) ≡ parts_for
      (due_messages meaning l l.outstanding now)
  due_letters has = by l.outstanding has
    where
      test : (o : Outstanding Items Carried) (b : Bool) → HasPart (Some o)
          → letters_with wanted.subscriber (if b then option_map (message_of producer l.start wanted l.number)
          (wanted_part_of (length l.rounds) (Some o)) else None) ≡ parts_for (message_if meaning b l o)
      test o true has = outstanding_letters o has
      test o false has = refl

      by : (o : Option (Outstanding Items Carried)) → HasPart o
          → letters_with wanted.subscriber (if is_message_due_of o now
          then option_map (message_of producer l.start wanted l.number) (wanted_part_of (length l.rounds) o)
          else None) ≡ parts_for (due_messages meaning l o now)
      by None has = refl
      by (Some o) has = test o (is_due o.last_sent now) has

-- ---- a look, and a heartbeat

pub look_keeps : (l : Living) (direct : Items) (now : ℕ) → looked l.wanted direct now (slot_of meaning l) ≡ slot_of meaning (opened meaning l direct now)
look_keeps l direct now = by l.outstanding
  where
    test : (b : Bool) → cond b (begun (slot_of meaning l) (new_round meaning l direct now))
        (slot_of meaning l) ≡ slot_of meaning (opened_if meaning b l direct now)
    test true = sym (slot_begins meaning l (new_round meaning l direct now))
    test false = refl

    by : (o : Option (Outstanding Items Carried)) → cond (opens_round meaning o (slot_of meaning l) l.wanted direct)
        (begun (slot_of meaning l) (new_round meaning l direct now)) (slot_of meaning l) ≡ slot_of meaning
        (opened_at meaning o l direct now)
    by None = test (wants_round meaning l direct)
    by (Some o) = refl

heartbeat_is : (at : At) (l : Living) → letters_with l.wanted.subscription.subscriber
    (heartbeat_due at (row_of l)) ≡ heartbeat_letters meaning l.wanted.subscription.subscriber
    (sends_heartbeat meaning l at.now)
heartbeat_is at l = by (sends_heartbeat meaning l at.now)
  where
    by : (b : Bool) → letters_with l.wanted.subscription.subscriber
        (if b then Some (message.HeartbeatNotification (heartbeat at.producer at.now at.started))
        else None) ≡ heartbeat_letters meaning l.wanted.subscription.subscriber b
    by true = refl
    by false = refl

-- ---- a row

module _ (at : At) (items : Items) where
  part_is : (l : Living) → l.number < 1000000000000000000 → IsOf at.start l
      → letters_with l.wanted.subscription.subscriber (part_due at items (row_of l))
      ≡ letters_for meaning l.wanted.subscription.subscriber l.wanted.subscription.identifier
      (settle_sends meaning l (direct_to at.now items l.wanted.subscription.topic) at.now)
  part_is l small is =
      let direct = direct_to at.now items l.wanted.subscription.topic in
      let look = opened meaning l direct at.now in
      let goes = look_goes l direct at.now in
      ap (λ rounds. letters_with l.wanted.subscription.subscriber
      (message_due at.producer at.start l.wanted.subscription l.number at.now rounds)) (look_keeps l direct at.now)
      ∙ (λ i. letters_with (sym goes.wanted i).subscription.subscriber
      (message_due at.producer (sym (goes.start ∙ is.start) i) (sym goes.wanted i).subscription
      (sym goes.number i) at.now (slot_of meaning look)))
      ∙ due_letters at.producer look at.now (subst (λ number. number < 1000000000000000000) (sym goes.number) small) (goes.part is.part)
      ∙ (λ i. letters_for meaning (goes.wanted i).subscription.subscriber (goes.wanted i).subscription.identifier
      (due_messages meaning look look.outstanding at.now))

  row_is : (x : Of Living) → IsNamed x → IsShort x → IsOf at.start x.it
      → letters_of (packets_out (row_sends at items (row_of x.it)))
      ≡ letters_for meaning x.subscriber x.identifier
      (settle_sends meaning x.it (direct_to at.now items x.it.wanted.subscription.topic) at.now)
      ++ heartbeat_letters meaning x.subscriber (sends_heartbeat meaning x.it at.now)
  row_is x named small is =
      let row = row_of x.it in
      letters_join (outs_with row (part_due at items row)) (outs_with row (heartbeat_due at row))
      ∙ (λ i. with_is row (part_due at items row) i ++ with_is row (heartbeat_due at row) i)
      ∙ (λ i. part_is x.it small is i ++ heartbeat_is at x.it i)
      ∙ (λ i. letters_for meaning (sym named.0 i) (sym named.1 i)
      (settle_sends meaning x.it (direct_to at.now items x.it.wanted.subscription.topic) at.now)
      ++ heartbeat_letters meaning (sym named.0 i) (sends_heartbeat meaning x.it at.now))

  -- all of them, by a history whose direct responses are what is shown
  pub rows_are_letters : (known : History) → ((wanted : AskedFor)
      → direct_of known wanted ≡ direct_to at.now items wanted.subscription.topic) → (t : List (Of Living)) → AreNamed t
      → AllByRecursion IsShort t → AllLive (IsOf at.start) t
      → letters_of (packets_out (table_sends at items (rows_of t))) ≡ row_letters meaning known at.now t
  rows_are_letters known knows [] named short stand = refl
  rows_are_letters known knows (x ∷ xs) named short stand =
      let sent = λ (direct : Items). letters_for meaning x.subscriber x.identifier (settle_sends meaning x.it direct at.now) in
      let beat = heartbeat_letters meaning x.subscriber (sends_heartbeat meaning x.it at.now) in
      letters_join (row_sends at items (row_of x.it)) (table_sends at items (rows_of xs))
      ∙ (λ i. row_is x named.0 short.0 stand.0 i ++ rows_are_letters known knows xs named.1 short.1 stand.1 i)
      ∙ append_assoc (sent (direct_to at.now items x.it.wanted.subscription.topic)) beat (row_letters meaning known at.now xs)
      ∙ ap (λ direct. sent direct ++ (beat ++ row_letters meaning known at.now xs)) (sym (knows x.it.wanted))

-- ---- each is a part for its receiver, or none

AreMade : List Out → Type 0
AreMade outs = All IsMade (packets_out outs)

made_join : (xs ys : List Out) → AreMade xs → AreMade ys → AreMade (xs ++ ys)
unfolding AreMade
made_join xs ys first later = subst (All IsMade) (sym (map-append (λ (out : Out). ToConsumer out.to out.message) xs ys))
    (All-append IsMade (packets_out xs) (packets_out ys) first later)

module _ (at : At) (row : Row KeptLife) where
  made_part : (rounds : KeptRounds) → AreMade (outs_with row (message_due at.producer at.start row.wanted row.number at.now rounds))
  unfolding AreMade
  made_part rounds = by (is_message_due rounds at.now) (wanted_part rounds) row.wanted.fetched
    where
      of : (part : WantedPart) (fetched : Bool) → All IsMade
          (packets_out (out_of row (if fetched then message.DataReadyNotification
          (part_notification at.producer row.wanted row.number at.start part)
          else message.ServiceDelivery (part_delivery at.producer row.wanted row.number at.start part)) ∷ []))
      of part true = All-cons IsMade _ [] tt (All-nil IsMade)
      of part false = All-cons IsMade _ [] (delivery_made at.producer row.wanted row.number at.start part) (All-nil IsMade)

      by : (b : Bool) (part : Option WantedPart) → Bool → All IsMade
          (packets_out (outs_with row (if b then option_map (message_of at.producer at.start row.wanted row.number) part
          else None)))
      by true (Some part) fetched = of part row.wanted.fetched
      by true None fetched = All-nil IsMade
      by false part fetched = All-nil IsMade

  made_heartbeat : AreMade (outs_with row (heartbeat_due at row))
  unfolding AreMade
  made_heartbeat = by (is_heartbeat_due at.now row)
    where
      by : (b : Bool) → All IsMade (packets_out
          (outs_with row (if b then Some (message.HeartbeatNotification (heartbeat at.producer at.now at.started))
          else None)))
      by true = All-cons IsMade _ [] tt (All-nil IsMade)
      by false = All-nil IsMade

pub rows_are_made : (at : At) (items : Items) (rows : List (Row KeptLife)) → All IsMade (packets_out (table_sends at items rows))
unfolding AreMade
rows_are_made at items [] = All-nil IsMade
rows_are_made at items (row ∷ rows) =
    made_join (row_sends at items row) (table_sends at items rows)
    (made_join (outs_with row (part_due at items row)) (outs_with row (heartbeat_due at row))
    (made_part at row (looked (asked_of row) (direct_to at.now items row.wanted.topic) at.now row.slot.rounds))
    (made_heartbeat at row))
    (rows_are_made at items rows)
