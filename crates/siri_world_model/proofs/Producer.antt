-- A producer's messages as letters: what it sends at a settle, what it does with a message of a consumer, and its reply.
use Rattle.std.proofs.Common.{◌≡◌, ℕ, ◌<◌, List, [], ◌∷◌, ◌++◌, max, Bool, true, false, Option, refl, sym, ap, ◌∙◌, subst}
use Rattle.std.specs.List.{All, AllByRecursion}
use Rattle.std.proofs.lemmas.List.Elements.{All-cons, All-from_recursion, All-nil, recursion_from_All}
use Rattle.siri_messages.specs.Asked.{AskedFor}
use Rattle.siri_messages.specs.declared.message.Message.{Message}
use Rattle.siri_messages.specs.declared.message.Message.TheVariants as message
use Rattle.siri_messages.specs.declared.supplies.DataSupplyRequest.{DataSupplyRequest}
use Rattle.siri_messages.specs.declared.supplies.Mark.{Mark}
use Rattle.siri_change.specs.Parts.{Carried}
use Rattle.siri_life.specs.Life.{Subscribe, Terminate, Acknowledge}
use Rattle.siri_life.specs.Named.{Name}
use Rattle.siri_life.specs.Serving.{About, Carries, ToProducer, ToConsumer, lives_on, told, replies_to, row_letters}
use Rattle.siri_model.specs.Direct.{direct_to}
use Rattle.siri_model.specs.History.{Entry, Step, Start, Clock, Feed, Take, Settle, History, State, current, now_of}
use Rattle.siri_model.specs.History.{start_of}
use Rattle.siri_model.specs.Lives.{Living, Served, life_of, mark_of, served_after, serving_of, supply_of, table_of}
use Rattle.siri_model.specs.Meaning.{meaning}
use Rattle.siri_model.specs.Rows.{rows_of}
use Rattle.siri_model.proofs.Histories.{well_after}
use Rattle.siri_model.proofs.Serves.{goes_with, more_served}
use Rattle.siri_producer.specs.Answers.{answer_to, supply_answer_to}
use Rattle.siri_producer.specs.Sends.{at_of, sends}
use Rattle.siri_world_model.specs.Packets.{SentPacket, ToConsumer as to_consumer, producer, packets_out, reply_to}
use Rattle.siri_world_model.specs.laws.Letters.{Letter, acknowledging, asking, ending, letter_to_consumer, letter_to_producer, letters_of}
use Rattle.siri_world_model.proofs.Well.{IsFor, IsMade, IsOfConsumer, IsShort}
use Rattle.siri_world_model.proofs.Lives.{GoesOn}
use Rattle.siri_world_model.proofs.Replies.{answer_is, message_heard, renewal_letter, renewal_noted, serving_heard}
use Rattle.siri_world_model.proofs.Replies.{supply_is_letter, supply_is_made}
use Rattle.siri_world_model.proofs.Sends.{rows_are_letters, rows_are_made}
use Rattle.siri_world_model.proofs.Standing.{IsOf, stands_after}
use Rattle.siri_world_model.proofs.Tables.{AllLive, Begins, heard_all, kept_all, settled_all}
pub use Rattle.siri_world_model.proofs.Replies.{heard_about, serving_heard}

-- ---- a settle

-- what is sent are the letters of the table
pub sends_are_letters : (h : History) → All IsShort (serving_of h).table
    → letters_of (packets_out (sends producer h)) ≡ row_letters meaning (serving_of h).known (serving_of h).now
    (serving_of h).table
unfolding sends
sends_are_letters h short =
    let v = serving_of h in
    let goes = goes_with h in
    rows_are_letters (at_of producer h) (current h) v.known
    (λ wanted. ap (λ (s : State). direct_to s.now s.current wanted.subscription.topic) goes.known) v.table
    (well_after h).named (recursion_from_All IsShort v.table short)
    (subst (λ k. AllLive (IsOf k) v.table) goes.start (stands_after h))
    ∙ ap (λ now. row_letters meaning v.known now v.table) (sym goes.now)

pub sends_are_made : (h : History) → All IsMade (packets_out (sends producer h))
unfolding sends
sends_are_made h = rows_are_made (at_of producer h) (current h) (rows_of (table_of h))

-- ---- a message of a consumer

pub taken_is_heard : (h : History) (c : Name) (m : Message) → IsOfConsumer c m
    → serving_of (h ++ Take m ∷ []) ≡ serving_heard (serving_of h) (letter_to_producer c m)
unfolding served_after
taken_is_heard h c m made = more_served h (Take m) ∙ message_heard (serving_of h) c m made

-- what it replies before the next settle to a message that is about this, of these names
abbrev pub replies_about : Served → (subscriber identifier : Name) → About Carried AskedFor → List Letter
replies_about v c s (Carries p) = replies_to meaning v c s p
replies_about v c s (ToProducer true) = told meaning c
replies_about v c s (ToProducer false) = []
replies_about v c s ToConsumer = []

abbrev pub replies_heard : Served → Letter → List Letter
replies_heard v letter = replies_about v letter.subscriber letter.identifier letter.it

-- the reply to a DataSupplyRequest, by whether it has AllData
supply_reply_is_letter : (h : History) (c : Name) (r : DataSupplyRequest) (all : Bool) → r.consumer_ref ≡ c
    → All IsShort (serving_of h).table
    → letters_of (reply_to c (supply_answer_to producer (start_of h) (now_of h) all r (rows_of (table_of h))).reply)
    ≡ replies_to meaning (serving_of h) c r.extensions.subscription (supply_of all r.extensions)
supply_reply_is_letter h c r true is short = renewal_letter producer c (now_of h) r (rows_of (table_of h))
supply_reply_is_letter h c r false is short =
    ap (λ m. letter_to_consumer c m ∷ []) (answer_is h c r is)
    ∙ supply_is_letter h c r is (recursion_from_All IsShort (table_of h) short)
    (life_of c r.extensions.subscription h) refl

pub reply_is_letter : (h : History) (c : Name) (m : Message) → IsOfConsumer c m → All IsShort (serving_of h).table
    → letters_of (reply_to c (answer_to producer h m).reply) ≡ replies_heard (serving_of h) (letter_to_producer c m)
unfolding answer_to letter_to_producer IsOfConsumer
reply_is_letter h c (message.SubscriptionRequest r) made short = sym (ap (λ all. replies_heard (serving_of h) (asking c r.message_identifier all)) made.1)
reply_is_letter h c (message.TerminateSubscriptionRequest r) made short =
    sym (ap (λ all. replies_heard (serving_of h) (ending c r.message_identifier all)) made.1.1)
reply_is_letter h c (message.DataSupplyRequest r) made short = supply_reply_is_letter h c r r.all_data made.0 short
reply_is_letter h c (message.DataReceivedAcknowledgement a) made short = sym (λ i. replies_heard (serving_of h) (acknowledging c (made.0 i) (made.2.1 i)))
reply_is_letter h c (message.DataReadyAcknowledgement a) made short = refl
reply_is_letter h c (message.CheckStatusRequest r) made short = refl
reply_is_letter h c (message.ServiceRequest r) made short = absurd made
reply_is_letter h c (message.ServiceDelivery d) made short = absurd made
reply_is_letter h c (message.SubscriptionResponse r) made short = absurd made
reply_is_letter h c (message.TerminateSubscriptionResponse r) made short = absurd made
reply_is_letter h c (message.DataReadyNotification r) made short = absurd made
reply_is_letter h c (message.CheckStatusResponse r) made short = absurd made
reply_is_letter h c (message.HeartbeatNotification r) made short = absurd made

one_made : (packet : SentPacket) → IsMade packet → All IsMade (packet ∷ [])
one_made packet made = All-cons IsMade packet [] made (All-nil IsMade)

supply_reply_is_made : (h : History) (c : Name) (r : DataSupplyRequest) (all : Bool) → r.consumer_ref ≡ c
    → All IsMade (reply_to c (supply_answer_to producer (start_of h) (now_of h) all r (rows_of (table_of h))).reply)
supply_reply_is_made h c r true is =
    one_made (to_consumer c _) (subst (IsFor c) (sym (renewal_noted producer (now_of h) r (rows_of (table_of h)))) tt)
supply_reply_is_made h c r false is =
    subst (λ m. All IsMade (to_consumer c m ∷ [])) (sym (answer_is h c r is))
    (one_made (to_consumer c _) (supply_is_made h c r is (life_of c r.extensions.subscription h) refl))

pub reply_is_made : (h : History) (c : Name) (m : Message) → IsOfConsumer c m → All IsMade (reply_to c (answer_to producer h m).reply)
unfolding answer_to IsOfConsumer
reply_is_made h c (message.SubscriptionRequest r) made = one_made _ tt
reply_is_made h c (message.TerminateSubscriptionRequest r) made = one_made _ tt
reply_is_made h c (message.DataSupplyRequest r) made = supply_reply_is_made h c r r.all_data made.0
reply_is_made h c (message.DataReceivedAcknowledgement a) made = All-nil IsMade
reply_is_made h c (message.DataReadyAcknowledgement a) made = All-nil IsMade
reply_is_made h c (message.CheckStatusRequest r) made = one_made _ tt
reply_is_made h c (message.ServiceRequest r) made = absurd made
reply_is_made h c (message.ServiceDelivery d) made = absurd made
reply_is_made h c (message.SubscriptionResponse r) made = absurd made
reply_is_made h c (message.TerminateSubscriptionResponse r) made = absurd made
reply_is_made h c (message.DataReadyNotification r) made = absurd made
reply_is_made h c (message.CheckStatusResponse r) made = absurd made
reply_is_made h c (message.HeartbeatNotification r) made = absurd made

-- ---- numbers have at most 18 digits after each step

abbrev HasShort : Living → Type 0
HasShort l = l.number < 1000000000000000000

stays_short : (new old : Living) → GoesOn new old → HasShort old → HasShort new
stays_short new old goes small = subst (λ number. number < 1000000000000000000) (sym goes.number) small

-- after a step, by the table of what was served before it
short_step : (h : History) (step : Step) → AllByRecursion IsShort (served_after (serving_of h) step).table → All IsShort (serving_of (h ++ step ∷ [])).table
short_step h step short = subst (λ (v : Served). All IsShort v.table) (sym (more_served h step))
    (All-from_recursion IsShort (served_after (serving_of h) step).table short)

pub short_started : (number moment : ℕ) → All IsShort (serving_of (Start number moment ∷ [])).table
unfolding served_after
short_started number moment = All-nil IsShort

pub short_clocked : (h : History) (moment : ℕ) → All IsShort (serving_of h).table → All IsShort (serving_of (h ++ Clock moment ∷ [])).table
unfolding served_after
short_clocked h moment short =
    let v = serving_of h in
    short_step h (Clock moment) (kept_all HasShort (lives_on meaning (max v.now moment)) v.table (recursion_from_All IsShort v.table short))

pub short_fed : (h : History) (entries : List Entry) → All IsShort (serving_of h).table → All IsShort (serving_of (h ++ Feed entries ∷ [])).table
unfolding served_after
short_fed h entries short = short_step h (Feed entries) (recursion_from_All IsShort (table_of h) short)

pub short_settled : (h : History) → All IsShort (serving_of h).table → All IsShort (serving_of (h ++ Settle ∷ [])).table
unfolding served_after
short_settled h short =
    let v = serving_of h in
    short_step h Settle (settled_all HasShort stays_short v.known v.now v.table (recursion_from_All IsShort v.table short))

-- a life that an AllData request begins has its number
begins_short : (v : Served) (r : DataSupplyRequest) (all : Bool) → r.all_data ≡ all
    → (r.all_data ≡ true → r.extensions.number < 1000000000000000000)
    → Begins HasShort stays_short v (supply_of all r.extensions)
begins_short v r true is few = λ wanted. few is
begins_short v r false is few = tt

short_heard : (v : Served) (c : Name) (m : Message) → IsOfConsumer c m → AllByRecursion IsShort v.table
    → AllByRecursion IsShort (serving_heard v (letter_to_producer c m)).table
unfolding letter_to_producer IsOfConsumer
short_heard v c (message.SubscriptionRequest r) made short =
    subst (λ all. AllByRecursion IsShort (serving_heard v (asking c r.message_identifier all)).table) (sym made.1)
    (heard_all HasShort stays_short v c made.0.subscription.identifier (Subscribe r.message_identifier made.0) made.3 short)
short_heard v c (message.TerminateSubscriptionRequest r) made short =
    subst (λ all. AllByRecursion IsShort (serving_heard v (ending c r.message_identifier all)).table) (sym made.1.1)
    (heard_all HasShort stays_short v c made.1.0 (Terminate r.message_identifier) tt short)
short_heard v c (message.DataSupplyRequest r) made short = heard_all HasShort stays_short v c r.extensions.subscription
    (supply_of r.all_data r.extensions) (begins_short v r r.all_data refl made.1) short
short_heard v c (message.DataReceivedAcknowledgement a) made short =
    subst (λ (said : Bool × Option Mark). AllByRecursion IsShort (serving_heard v (acknowledging c said.0 said.1)).table) (sym (λ i. (made.0 i, made.2.1 i)))
    (heard_all HasShort stays_short v c made.2.0.subscription (Acknowledge (mark_of made.2.0)) tt short)
short_heard v c (message.DataReadyAcknowledgement a) made short = short
short_heard v c (message.CheckStatusRequest r) made short = short
short_heard v c (message.ServiceRequest r) made short = absurd made
short_heard v c (message.ServiceDelivery d) made short = absurd made
short_heard v c (message.SubscriptionResponse r) made short = absurd made
short_heard v c (message.TerminateSubscriptionResponse r) made short = absurd made
short_heard v c (message.DataReadyNotification r) made short = absurd made
short_heard v c (message.CheckStatusResponse r) made short = absurd made
short_heard v c (message.HeartbeatNotification r) made short = absurd made

pub short_taken : (h : History) (c : Name) (m : Message) → IsOfConsumer c m → All IsShort (serving_of h).table
    → All IsShort (serving_of (h ++ Take m ∷ [])).table
short_taken h c m made short =
    let v = serving_of h in
    subst (λ (v : Served). All IsShort v.table) (sym (taken_is_heard h c m made))
    (All-from_recursion IsShort (serving_heard v (letter_to_producer c m)).table (short_heard v c m made (recursion_from_All IsShort v.table short)))
