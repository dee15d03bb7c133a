-- What a producer does with a message of a consumer, and what it replies, as letters.
use Rattle.std.proofs.Common.{◌≡◌, ℕ, ◌<◌, List, [], ◌∷◌, length, map, Bool, true, false, cond, ◌&&◌, Option, None}
use Rattle.std.proofs.Common.{Some, Result, Ok, Err, refl, sym, ap, ◌∙◌, subst}
use Rattle.std.specs.Prelude.{slice_get, option_map, find as find_first}
use Rattle.std.specs.List.{AllByRecursion}
use Rattle.std.specs.Cmp.Lexicographic.{bytes_decides}
use Rattle.std.proofs.lemmas.Bool.{and_parts}
use Rattle.siri_records.specs.Keyed.{Items}
use Rattle.siri_topic.specs.declared.subscription.Subscription.{Subscription}
use Rattle.siri_messages.specs.Asked.{AskedFor}
use Rattle.siri_messages.specs.declared.message.Message.{Message}
use Rattle.siri_messages.specs.declared.message.Message.TheVariants as message
use Rattle.siri_messages.specs.declared.supplies.Mark.{Mark}
use Rattle.siri_messages.specs.declared.supplies.DataSupplyRequest.{DataSupplyRequest}
use Rattle.siri_change.specs.Parts.{Carried}
use Rattle.siri_subs.specs.Table.{is_of}
use Rattle.siri_life.specs.Life.{Outstanding, Subscribe, Terminate, Delivery, part_at, part_if, part_message, supply_sends}
use Rattle.siri_life.specs.Named.{Name, same_name}
use Rattle.siri_life.specs.Serving.{About, Carries, ToProducer, ToConsumer, Heard, heard, serving_after, supply_letters, supply_replies, told}
use Rattle.siri_life.specs.Slot.{slot_of, wants_of}
use Rattle.siri_model.specs.History.{History, now_of, start_of}
use Rattle.siri_model.specs.Lives.{Living, Served, acknowledgement_of, acts_in, life_of, mark_of, serving_of, table_of}
use Rattle.siri_model.specs.Lives.{supply_of as packet_of}
use Rattle.siri_model.specs.Meaning.{meaning}
use Rattle.siri_model.specs.Rows.{KeptLife, is_numbered, row_of, rows_of}
use Rattle.siri_model.proofs.Histories.{row_of_life}
use Rattle.siri_model.proofs.Serves.{goes_with}
use Rattle.siri_subs.specs.declared.rounds.answers.SupplyError.{SupplyError}
use Rattle.siri_subs.specs.declared.rounds.answers.SupplyError.TheVariants as refused_as
use Rattle.siri_subs.specs.rounds.Wanted.{WantedPart, wanted_in, wanted_part, wanted_part_of}
use Rattle.siri_base.specs.Numbers.{number_of}
use Rattle.siri_subscriptions.specs.replies.Parts.{all_data_response, refused_supply}
use Rattle.siri_subscriptions.specs.replies.Responses.{number_text}
use Rattle.siri_subs.specs.declared.entry.Row.{Row}
use Rattle.siri_subs.specs.declared.errors.Accepted.{Accepted}
use Rattle.siri_subs.specs.declared.errors.RenumberError.{RenumberError}
use Rattle.siri_subscriptions.specs.Renewals.{renew_answer, renew_by}
use Rattle.siri_subscriptions.specs.Supplies.{supply_answer, supply_by, supply_of, supply_in}
use Rattle.siri_view.specs.Hearing.{Noted, placed, heard as heard_by}
use Rattle.siri_world_model.specs.Packets.{producer}
use Rattle.siri_world_model.proofs.Well.{IsShort, IsFor, IsOfConsumer}
use Rattle.siri_world_model.proofs.Standing.{IsOf, stands_after}
use Rattle.siri_world_model.proofs.Tables.{found_all}
use Rattle.siri_world_model.specs.laws.Letters.{Letter, acknowledging, asking, ending, letter_heard, letter_to_consumer}
use Rattle.siri_world_model.specs.laws.Letters.{letter_to_producer, moment_in, of_one}
use Rattle.siri_world_model.proofs.Messages.{delivery_letter, delivery_made, mark_at, refused_letter, refused_made}

-- ---- what a message does

-- what a producer serves after a message that is about this, of these names
abbrev pub heard_about : Served → (subscriber identifier : Name) → About Carried AskedFor → Served
heard_about v c s (Carries p) = heard meaning v c s p
heard_about v c s (ToProducer answered) = v
heard_about v c s ToConsumer = v

abbrev pub serving_heard : Served → Letter → Served
serving_heard v letter = heard_about v letter.subscriber letter.identifier letter.it

pub message_heard : (v : Served) (c : Name) (m : Message) → IsOfConsumer c m → serving_after meaning (acts_in m) v ≡ serving_heard v (letter_to_producer c m)
unfolding acts_in letter_to_producer IsOfConsumer
message_heard v c (message.SubscriptionRequest r) made =
    let asked = made.0 in
    ap (λ (all : List AskedFor). serving_after meaning
    (map (λ asked. Heard asked.subscription.subscriber asked.subscription.identifier
    (Subscribe r.message_identifier asked)) all) v) made.1
    ∙ ap (λ name. heard meaning v name asked.subscription.identifier (Subscribe r.message_identifier asked)) made.2
    ∙ sym (ap (λ all. serving_heard v (asking c r.message_identifier all)) made.1)
message_heard v c (message.TerminateSubscriptionRequest r) made =
    ap (λ (all : List Name). serving_after meaning (map (λ identifier. Heard r.subscriber_ref identifier (Terminate r.message_identifier)) all) v) made.1.1
    ∙ ap (λ name. heard meaning v name made.1.0 (Terminate r.message_identifier)) made.0
    ∙ sym (ap (λ all. serving_heard v (ending c r.message_identifier all)) made.1.1)
message_heard v c (message.DataSupplyRequest r) made = ap
    (λ name. heard meaning v name r.extensions.subscription (packet_of r.all_data r.extensions)) made.0
message_heard v c (message.DataReceivedAcknowledgement a) made =
    (λ i. serving_after meaning (acknowledgement_of (made.0 i) (made.1 i) (made.2.1 i)) v)
    ∙ sym (λ i. serving_heard v (acknowledging c (made.0 i) (made.2.1 i)))
message_heard v c (message.DataReadyAcknowledgement a) made = refl
message_heard v c (message.CheckStatusRequest r) made = refl
message_heard v c (message.ServiceRequest r) made = absurd made
message_heard v c (message.ServiceDelivery d) made = absurd made
message_heard v c (message.SubscriptionResponse r) made = absurd made
message_heard v c (message.TerminateSubscriptionResponse r) made = absurd made
message_heard v c (message.DataReadyNotification r) made = absurd made
message_heard v c (message.CheckStatusResponse r) made = absurd made
message_heard v c (message.HeartbeatNotification r) made = absurd made

-- ---- the reply to a request for a part

-- a refusal is of no subscription
refused_alone : (producer receiver : List ℕ) (now : ℕ) (why : SupplyError)
    → letter_to_consumer receiver (message.ServiceDelivery (refused_supply producer now why)) ∷ [] ≡ told meaning
    receiver
refused_alone producer receiver now why = ap (λ letter. letter ∷ []) (refused_letter producer receiver now why)

-- nor is the reply to a request for all of a subscription of one: it says nothing of a part
placed_none : (number : Option ℕ) (more : Bool) → placed number None more ≡ Noted
placed_none None more = refl
placed_none (Some number) more = refl

renewal_heard : (producer : List ℕ) (now number : ℕ) (outcome : Result Accepted RenumberError)
    → heard_by (message.ServiceDelivery (renew_by producer now number outcome).delivery) ≡ Noted
unfolding all_data_response
renewal_heard producer now number (Ok how) = placed_none (number_of (number_text number)) true
renewal_heard producer now number (Err why) = placed_none (number_of (number_text number)) false

pub renewal_noted : (producer : List ℕ) (now : ℕ) (r : DataSupplyRequest) (rows : List (Row KeptLife))
    → heard_by (message.ServiceDelivery (renew_answer producer now r rows).delivery) ≡ Noted
unfolding renew_answer
renewal_noted producer now r rows = renewal_heard producer now r.extensions.number _

pub renewal_letter : (producer receiver : List ℕ) (now : ℕ) (r : DataSupplyRequest) (rows : List (Row KeptLife))
    → letter_to_consumer receiver (message.ServiceDelivery (renew_answer producer now r rows).delivery) ∷ []
    ≡ told meaning receiver
renewal_letter producer receiver now r rows =
    let reply = message.ServiceDelivery (renew_answer producer now r rows).delivery in
    ap (λ it. letter_heard receiver (moment_in reply) it ∷ []) (renewal_noted producer now r rows)

-- by the life of the subscription that its mark names
module _ (producer : List ℕ) (k now : ℕ) (mark : Mark) (l : Living) where
  abbrev wanted : Subscription
  wanted = l.wanted.subscription

  -- the mark names the part that is wanted
  abbrev names : Option (Outstanding Items Carried) → Bool
  names o = is_numbered (mark_of mark) l.number k && wants_of (length l.rounds) o mark.round mark.part

  abbrev reply_by : (fetched : Bool) → Option WantedPart → Bool → Message
  reply_by fetched part b = message.ServiceDelivery (supply_by producer k now (row_of l) fetched part b).delivery

  module _ (small : l.number < 1000000000000000000) (started : l.start ≡ k) where
    part_letters : (o : Outstanding Items Carried) (fetched : Bool) (part : Option Carried) (b : Bool) → slice_get o.round.parts o.acknowledged_parts ≡ part
        → letter_to_consumer wanted.subscriber (reply_by fetched (option_map (wanted_in (length l.rounds) o) part) b) ∷ []
        ≡ supply_letters meaning wanted.subscriber wanted.identifier (part_if meaning (fetched && b) l o)
    part_letters o true (Some part) true is =
        let sent = wanted_in (length l.rounds) o part in
        ap (λ letter. letter ∷ []) (delivery_letter producer wanted l.number k sent small)
        ∙ (λ i. of_one wanted.subscriber wanted.identifier (Carries (Delivery (mark_at l.number (sym started i) sent) sent.moment sent.more part)) ∷ [])
        ∙ ap (λ part. supply_letters meaning wanted.subscriber wanted.identifier (part_message meaning l o part)) (sym is)
    part_letters o true (Some part) false is = refused_alone producer wanted.subscriber now (refused_as.WrongPart (wanted_in (length l.rounds) o part).place)
    part_letters o true None true is =
        refused_alone producer wanted.subscriber now refused_as.NothingReady
        ∙ ap (λ part. supply_letters meaning wanted.subscriber wanted.identifier (part_message meaning l o part)) (sym is)
    part_letters o true None false is = refused_alone producer wanted.subscriber now refused_as.NothingReady
    part_letters o false part b is = refused_alone producer wanted.subscriber now refused_as.NothingReady

    none_letters : (fetched b : Bool) → letter_to_consumer wanted.subscriber (reply_by fetched None b) ∷ [] ≡ told meaning wanted.subscriber
    none_letters true b = refused_alone producer wanted.subscriber now refused_as.NothingReady
    none_letters false b = refused_alone producer wanted.subscriber now refused_as.NothingReady

    supply_letter : letter_to_consumer wanted.subscriber (message.ServiceDelivery (supply_of producer k now mark (row_of l)).delivery) ∷ []
        ≡ supply_letters meaning wanted.subscriber wanted.identifier (supply_sends meaning l k (mark_of mark))
    supply_letter = by l.outstanding
      where
        by : (o : Option (Outstanding Items Carried)) → letter_to_consumer wanted.subscriber
            (reply_by wanted.fetched (wanted_part_of (length l.rounds) o) (names o)) ∷ []
            ≡ supply_letters meaning wanted.subscriber wanted.identifier (part_at meaning o l k (mark_of mark))
        by None = none_letters wanted.fetched (names None)
        by (Some o) = part_letters o wanted.fetched (slice_get o.round.parts o.acknowledged_parts) (names (Some o)) refl

  reply_made : (fetched : Bool) (part : Option WantedPart) (b : Bool) → IsFor wanted.subscriber (heard_by (reply_by fetched part b))
  reply_made true (Some part) true = delivery_made producer wanted l.number k part
  reply_made true (Some part) false = refused_made producer wanted.subscriber now (refused_as.WrongPart part.place)
  reply_made true None b = refused_made producer wanted.subscriber now refused_as.NothingReady
  reply_made false part b = refused_made producer wanted.subscriber now refused_as.NothingReady

-- ---- by the history

find_passes : {X : Type 0} (test : X → Bool) (xs : List X) (x : X) → find_first test xs ≡ Some x → test x ≡ true
find_passes test [] x there = absurd (cc)
find_passes test (y ∷ ys) x there = by (test y) refl there (find_passes test ys x)
  where
    by : (b : Bool) → test y ≡ b → cond b (Some y) (find_first test ys) ≡ Some x → (find_first test ys ≡ Some x → test x ≡ true) → test x ≡ true
    by true is there rest = let same : y ≡ x = cc in subst (λ z. test z ≡ true) same is
    by false is there rest = rest there

module _ (h : History) (c s : Name) where
  -- the life of a subscription stands under its names
  named : (l : Living) → life_of c s h ≡ Some l → (c ≡ l.wanted.subscription.subscriber) × (s ≡ l.wanted.subscription.identifier)
  named l is =
      let there = row_of_life h c s ∙ ap (option_map row_of) is in
      let both = and_parts (same_name l.wanted.subscription.subscriber c) (same_name l.wanted.subscription.identifier s)
      (find_passes (is_of c s) (rows_of (table_of h)) (row_of l) there) in
      (sym ((bytes_decides l.wanted.subscription.subscriber c).0 both.0), sym ((bytes_decides l.wanted.subscription.identifier s).0 both.1))

module _ (h : History) (c : Name) (r : DataSupplyRequest) (is : r.consumer_ref ≡ c) where
  abbrev pub mark : Mark
  mark = r.extensions

  abbrev pub answer : ℕ → ℕ → Option Living → Message
  answer k now l = message.ServiceDelivery (supply_in producer k now mark (option_map row_of l)).delivery

  -- the answer is found by the life
  pub answer_is : message.ServiceDelivery (supply_answer producer (start_of h) (now_of h) r
      (rows_of (table_of h))).delivery ≡ answer (start_of h) (now_of h) (life_of c mark.subscription h)
  unfolding supply_answer
  answer_is =
      ap (λ row. message.ServiceDelivery (supply_in producer (start_of h) (now_of h) mark row).delivery) (row_of_life h r.consumer_ref mark.subscription)
      ∙ ap (λ name. answer (start_of h) (now_of h) (life_of name mark.subscription h)) is

  pub supply_is_letter : AllByRecursion IsShort (table_of h) → (l : Option Living) → life_of c mark.subscription h ≡ l
      → letter_to_consumer c (answer (start_of h) (now_of h) l) ∷ [] ≡ supply_replies meaning (serving_of h) c mark.subscription (mark_of mark) l
  supply_is_letter short None there = refused_alone producer c (now_of h) refused_as.NothingReady
  supply_is_letter short (Some l) there =
      let v = serving_of h in
      let names = named h c mark.subscription l there in
      let small = found_all (λ (l : Living). l.number < 1000000000000000000) c mark.subscription v.table l short there in
      let stands = found_all (IsOf v.start) c mark.subscription v.table l (stands_after h) there in
      let start = (goes_with h).start in
      (λ i. letter_to_consumer (names.0 i) (answer (start_of h) (now_of h) (Some l)) ∷ [])
      ∙ supply_letter producer (start_of h) (now_of h) mark l small (stands.start ∙ start)
      ∙ (λ i. supply_letters meaning (sym names.0 i) (sym names.1 i) (supply_sends meaning l (sym start i) (mark_of mark)))

  pub supply_is_made : (l : Option Living) → life_of c mark.subscription h ≡ l → IsFor c (heard_by (answer (start_of h) (now_of h) l))
  supply_is_made None there = refused_made producer c (now_of h) refused_as.NothingReady
  supply_is_made (Some l) there =
      subst (λ name. IsFor name (heard_by (answer (start_of h) (now_of h) (Some l)))) (sym (named h c mark.subscription l there).0)
      (reply_made producer (start_of h) (now_of h) mark l l.wanted.subscription.fetched
      (wanted_part (slot_of meaning l)) (names producer (start_of h) (now_of h) mark l l.outstanding))
