-- What a connection is answered where its answer is lent: what is taken before the settle, and what is written after
-- it.
use Rattle.std.proofs.Common.{◌≡◌, ℕ, List, [], ◌∷◌, ◌++◌, Bool, true, false, length, Option, None, Some, Result, Ok}
use Rattle.std.proofs.Common.{Err, refl, sym, ap, ◌∙◌, subst, append-nil, append_assoc}
use Rattle.std.specs.Prelude.{IfOk, IsErr, IsErrOf, MatchBool, OnOk, OnErr, ⊤}
use Rattle.siri_base.specs.declared.errors.OutOfMemory.{OutOfMemory}
use Rattle.siri_http.specs.Messages.{UnlessMemory, is_memory}
use Rattle.siri_http.specs.declared.errors.HttpError.{HttpError}
use Rattle.siri_http.specs.declared.errors.HttpError.TheVariants as http
use Rattle.siri_outside.specs.Wires.{WireState}
use Rattle.siri_http.specs.Responses.{WroteFront}
use Rattle.siri_http.specs.Texts.{head_text, response_text}
use Rattle.siri_http.proofs.Connections.{on_same}
use Rattle.siri_http.specs.declared.asked.Asked.{Asked}
use Rattle.siri_messages.specs.declared.message.Message.{Message}
use Rattle.siri_messages.specs.declared.message.Message.TheVariants as message
use Rattle.siri_messages.specs.Kinds.{service_request_of}
use Rattle.siri_messages.specs.declared.requests.ServiceRequest.{ServiceRequest}
use Rattle.siri_messages.specs.declared.supplies.DataSupplyRequest.{DataSupplyRequest}
use Rattle.siri_messages.specs.declared.deliveries.ServiceDelivery.{ServiceDelivery}
use Rattle.siri_model.specs.History.{History, State, Settle, Take, start_of}
use Rattle.siri_producer.specs.Answers.{answer_to, supply_note}
use Rattle.siri_producer.specs.Known.{GoesOn, Known, SameButReads, SendsFor, StandsFor}
use Rattle.siri_producer.specs.Lent.{OwnPart, is_lent, part_of, supplied_by}
use Rattle.siri_producer.specs.Sends.{sends}
use Rattle.siri_producer.specs.declared.lending.LentPart.{LentPart}
use Rattle.siri_producer.specs.declared.lending.Supplied.{Supplied}
use Rattle.siri_producer.specs.declared.lending.Supplied.TheVariants as supplied
use Rattle.siri_producer.proofs.Lends.{refused_reply, request_forgotten, response_forgets, sends_asked}
use Rattle.siri_producer.proofs.Lends.{state_after_both, supplied_stays}
use Rattle.siri_subscriptions.specs.replies.Parts.{part_delivery, refused_supply}
use Rattle.siri_subs.specs.rounds.Wanted.{part_sent}
use Rattle.siri_subs.specs.declared.rounds.answers.SupplyError.{SupplyError}
use Rattle.siri_subscriptions.specs.declared.outs.Out.{Out}
use Rattle.siri_ends.specs.declared.answering.Brought.TheVariants as brought
use Rattle.siri_ends.specs.declared.reply.Reply.{Reply}
use Rattle.siri_ends.specs.declared.reply.Reply.TheVariants as reply
use Rattle.siri_ends.specs.declared.response.Response.{Response}
use Rattle.siri_ends.specs.Answering.{StopsWriting}
use Rattle.siri_ends.specs.Lending.{IsReply, LendsPart, Prepares, PreparesFor, TurnedBy, delivering, is_direct}
use Rattle.siri_ends.specs.Lending.{message_response}
use Rattle.siri_ends.specs.Responses.{message_asked, producer_reply, replying, response_to, taking, turn_steps}
use Rattle.siri_ends.specs.Turns.{Brings, TakesFor}

-- ---- nothing changed but the counter of steps

pub same_then : (a b c : Known) → SameButReads a b → SameButReads b c → SameButReads a c
same_then a b c first then =
    then ∙ ap (λ (k : Known). record k { responder = record k.responder { reads = c.responder.reads } }) first

pub same_stands : (old new : Known) (h : History) → SameButReads old new → StandsFor old h → StandsFor new h
same_stands old new h same stands = subst (λ k. StandsFor k h) (sym same) (record {
  responder = record {
    start = stands.responder.start;
    started = stands.responder.started;
    moment = stands.responder.moment;
    held = stands.responder.held;
  };
  table = stands.table;
  settled = stands.settled;
})

pub same_name : (old new : Known) → SameButReads old new → new.responder.name ≡ old.responder.name
same_name old new same = ap (λ (k : Known). k.responder.name) same

pub same_moment : (old new : Known) → SameButReads old new → new.responder.moment ≡ old.responder.moment
same_moment old new same = ap (λ (k : Known). k.responder.moment) same

-- ---- what is taken before the settle

pub prepares_message : (asked : Asked) (message : Message) (first taken : Known) (reply : Reply)
    → Brings asked (brought.Message message) → Prepares first taken (Some message) (message_response message) reply
    → PreparesFor first taken asked reply
prepares_message asked message first taken (reply.Made made) brings so = record {
  stands = subst (TakesFor first taken) (sym brings.message) so.stands;
  made_is = λ h stands. so.made_is h stands ∙ sym (brings.answer (producer_reply first.responder.name h));
}
prepares_message asked message first taken (reply.Direct request) brings so = record {
  asked = brings.message ∙ so.asked;
  same = so.same;
  answer_is = λ name h. brings.answer (producer_reply name h) ∙ so.answer_is name h;
}
prepares_message asked message first taken (reply.Part subscriber subscription) brings so = record {
  request = so.request;
  of_subscriber = so.of_subscriber;
  of_subscription = so.of_subscription;
  asked = brings.message ∙ so.asked;
  stands = so.stands;
  answer_is = λ name h. brings.answer (producer_reply name h) ∙ so.answer_is name h;
  supplied_is = so.supplied_is;
}

takes_nothing : (known : Known) → TakesFor known known None
takes_nothing known h stands = subst (StandsFor known) (sym (append-nil h)) stands

pub prepares_refusal : (asked : Asked) (response : Response) (known : Known) → Brings asked (brought.Refused response)
    → PreparesFor known known asked (reply.Made (Some response))
prepares_refusal asked response known brings = record {
  stands = subst (TakesFor known known) (sym brings.message) (takes_nothing known);
  made_is = λ h stands. sym (brings.answer (producer_reply known.responder.name h));
}

pub prepares_nothing : (asked : Asked) (known : Known) → Brings asked brought.Nothing
    → PreparesFor known known asked (reply.Made None)
prepares_nothing asked known brings = record {
  stands = subst (TakesFor known known) (sym brings.message) (takes_nothing known);
  made_is = λ h stands. sym (brings.answer (producer_reply known.responder.name h));
}

-- an answer was made
pub makes : (message : Message) (first taken : Known) (response : Response) → TakesFor first taken (Some message)
    → ((h : History) → StandsFor first h → response ≡ replying (producer_reply first.responder.name h message))
    → Prepares first taken (Some message) (message_response message) (reply.Made (Some response))
makes message first taken response takes is = record { stands = takes; made_is = λ h stands. ap Some (is h stands) }

-- a request whose answer is lent is one for items
pub directs : (message : Message) → is_direct message ≡ true → service_request_of message ≡ None → ⊥
directs (message.ServiceRequest request) direct none = absurd (cc none)
directs (message.ServiceDelivery m) direct none = absurd (cc direct)
directs (message.SubscriptionRequest m) direct none = absurd (cc direct)
directs (message.SubscriptionResponse m) direct none = absurd (cc direct)
directs (message.TerminateSubscriptionRequest m) direct none = absurd (cc direct)
directs (message.TerminateSubscriptionResponse m) direct none = absurd (cc direct)
directs (message.DataReadyNotification m) direct none = absurd (cc direct)
directs (message.DataReadyAcknowledgement m) direct none = absurd (cc direct)
directs (message.DataSupplyRequest m) direct none = absurd (cc direct)
directs (message.DataReceivedAcknowledgement m) direct none = absurd (cc direct)
directs (message.CheckStatusRequest m) direct none = absurd (cc direct)
directs (message.CheckStatusResponse m) direct none = absurd (cc direct)
directs (message.HeartbeatNotification m) direct none = absurd (cc direct)

-- it is answered directly
pub asks_directly : (message : Message) (request : ServiceRequest) (known : Known) → is_direct message ≡ true
    → service_request_of message ≡ Some request
    → Prepares known known (Some message) (message_response message) (reply.Direct request) × (is_lent request ≡ true)
asks_directly (message.ServiceRequest asked) request known direct is =
    let same : asked ≡ request = cc is in (
      record {
        asked = ap
            (λ (r : ServiceRequest). Some (message.ServiceRequest r)) same;
        same = refl;
        answer_is = λ name h. ap
            (λ (r : ServiceRequest). Some (replying (producer_reply name h (message.ServiceRequest r)))) same;
      },
      subst (λ (r : ServiceRequest). is_lent r ≡ true) same direct,
    )
asks_directly (message.ServiceDelivery m) request known direct is = absurd (cc direct)
asks_directly (message.SubscriptionRequest m) request known direct is = absurd (cc direct)
asks_directly (message.SubscriptionResponse m) request known direct is = absurd (cc direct)
asks_directly (message.TerminateSubscriptionRequest m) request known direct is = absurd (cc direct)
asks_directly (message.TerminateSubscriptionResponse m) request known direct is = absurd (cc direct)
asks_directly (message.DataReadyNotification m) request known direct is = absurd (cc direct)
asks_directly (message.DataReadyAcknowledgement m) request known direct is = absurd (cc direct)
asks_directly (message.DataSupplyRequest m) request known direct is = absurd (cc direct)
asks_directly (message.DataReceivedAcknowledgement m) request known direct is = absurd (cc direct)
asks_directly (message.CheckStatusRequest m) request known direct is = absurd (cc direct)
asks_directly (message.CheckStatusResponse m) request known direct is = absurd (cc direct)
asks_directly (message.HeartbeatNotification m) request known direct is = absurd (cc direct)

-- a part is supplied
pub supplies_part : (request : DataSupplyRequest) (first taken : Known) (outcome : Supplied)
    (subscriber subscription : List ℕ)
    → subscriber ≡ request.consumer_ref → subscription ≡ request.extensions.subscription
    → GoesOn first taken (Take (message.DataSupplyRequest request))
    → ((h : History) → StandsFor first h
    → outcome ≡ supplied_by (answer_to first.responder.name h (message.DataSupplyRequest request)).note)
    → outcome ≡ supplied.Part
    → Prepares first taken (Some (message.DataSupplyRequest request))
    (message_response (message.DataSupplyRequest request)) (reply.Part subscriber subscription)
supplies_part request first taken outcome subscriber subscription by to goes told is = record {
  request = request;
  of_subscriber = by;
  of_subscription = to;
  asked = refl;
  stands = goes.stands;
  answer_is = λ name h. refl;
  supplied_is = λ h stands. sym (told h stands) ∙ is;
}

-- none is
pub supplies_none : (request : DataSupplyRequest) (first taken : Known) (outcome : Supplied) (why : SupplyError)
    (name : List ℕ) (now : ℕ)
    (response : Response) → GoesOn first taken (Take (message.DataSupplyRequest request))
    → ((h : History) → StandsFor first h
    → outcome ≡ supplied_by (answer_to first.responder.name h (message.DataSupplyRequest request)).note)
    → outcome ≡ supplied_by (supply_note (Err why)) → name ≡ first.responder.name → now ≡ first.responder.moment
    → response ≡ delivering (refused_supply name now why)
    → Prepares first taken (Some (message.DataSupplyRequest request))
    (message_response (message.DataSupplyRequest request)) (reply.Made (Some response))
supplies_none request first taken outcome why name now response goes told is named at made = record {
  stands = goes.stands;
  made_is = λ h stands.
      ap Some made
      ∙ ap (λ n. Some (delivering (refused_supply n now why))) named
      ∙ ap (λ n. Some (delivering (refused_supply first.responder.name n why))) (at ∙ stands.responder.moment)
      ∙ ap (λ r. Some (replying r)) (sym (refused_reply first.responder.name h request why (sym (told h stands) ∙ is)));
}

-- ---- and after it

turns_by : (asked : Asked) (reply : Reply) (outs : List Out) (first taken last : Known)
    → TakesFor first taken (message_asked asked)
    → taken.responder.name ≡ first.responder.name → GoesOn taken last Settle → SendsFor taken outs
    → last.responder.name ≡ taken.responder.name
    → ((h : History) → StandsFor first h
    → IsReply reply first.responder.name (h ++ turn_steps (message_asked asked))
    (response_to first.responder.name h asked))
    → TurnedBy asked outs reply first last
turns_by asked reply outs first taken last takes named settles sent kept is =
    let message = message_asked asked in
    record {
      keeps = kept ∙ named;
      stands_for = λ h stands.
          subst (StandsFor last) (append_assoc h (taking message) (Settle ∷ []))
          (settles.stands (h ++ taking message) (takes h stands));
      messages_are = λ h stands.
          sent (h ++ taking message) (takes h stands) ∙ ap (λ name. sends name (h ++ taking message)) named;
      reply_is = is;
    }

part_lends : (name : List ℕ) (h : History) (request : DataSupplyRequest) (response : Option Response)
    → response ≡ Some (replying (producer_reply name h (message.DataSupplyRequest request)))
    → supplied_by (answer_to name h (message.DataSupplyRequest request)).note ≡ supplied.Part
    → LendsPart request.consumer_ref request.extensions.subscription name
    (h ++ turn_steps (Some (message.DataSupplyRequest request))) response
part_lends name h request response answered told =
    let stays = supplied_stays name h request told in
    let part = stays.part in
    let start : start_of (h ++ turn_steps (Some (message.DataSupplyRequest request))) ≡ start_of h =
    ap (λ (s : State). s.start) (state_after_both h request) in
    record {
      part = part;
      kept = stays.stays;
      response_is = answered
          ∙ ap (λ r. Some (replying r)) stays.reply
          ∙ ap (λ n. Some (delivering (part_delivery name part.wanted part.number n part.part))) (sym start);
    }

direct_is : (name : List ℕ) (h : History) (request : ServiceRequest) (response : Option Response)
    → response ≡ Some (replying (producer_reply name h (message.ServiceRequest request)))
    → IsReply (reply.Direct request) name (h ++ turn_steps (Some (message.ServiceRequest request))) response
unfolding answer_to
direct_is name h request response answered =
    answered ∙ ap (λ (d : ServiceDelivery). Some (delivering d)) (sym (response_forgets h name request))

-- the turn of a connection, of which the reply is still to be written
pub turns : (asked : Asked) (reply : Reply) (outs : List Out) (first taken last : Known)
    → PreparesFor first taken asked reply
    → taken.responder.name ≡ first.responder.name → GoesOn taken last Settle → SendsFor taken outs
    → last.responder.name ≡ taken.responder.name
    → TurnedBy asked outs reply first last
turns asked (reply.Made made) outs first taken last so named settles sent kept =
    turns_by asked (reply.Made made) outs first taken last so.stands named settles sent kept
    (λ h stands. sym (so.made_is h stands))
turns asked (reply.Part subscriber subscription) outs first taken last so named settles sent kept =
    turns_by asked (reply.Part subscriber subscription) outs first taken last
    (subst (TakesFor first taken) (sym so.asked) so.stands)
    named settles sent kept
    (λ h stands.
    subst (λ m. LendsPart subscriber subscription first.responder.name (h ++ turn_steps m)
    (response_to first.responder.name h asked)) (sym so.asked)
    (subst (λ s. LendsPart s subscription first.responder.name
    (h ++ turn_steps (Some (message.DataSupplyRequest so.request))) (response_to first.responder.name h asked))
    (sym so.of_subscriber)
    (subst (λ s. LendsPart so.request.consumer_ref s first.responder.name
    (h ++ turn_steps (Some (message.DataSupplyRequest so.request))) (response_to first.responder.name h asked))
    (sym so.of_subscription)
    (part_lends first.responder.name h so.request (response_to first.responder.name h asked)
    (so.answer_is first.responder.name h) (so.supplied_is h stands)))))
turns asked (reply.Direct request) outs first taken last so named settles sent kept = record {
  keeps = kept ∙ named;
  stands_for = λ h stands.
      subst (λ m. StandsFor last (h ++ turn_steps m)) (sym so.asked)
      (request_forgotten h request last (settles.stands h (subst (λ k. StandsFor k h) (sym so.same) stands)));
  messages_are = λ h stands.
      sent h (subst (λ k. StandsFor k h) (sym so.same) stands)
      ∙ ap (λ name. sends name h) named
      ∙ sends_asked first.responder.name h request
      ∙ ap (λ m. sends first.responder.name (h ++ taking m)) (sym so.asked);
  reply_is = λ h stands.
      subst (λ m. IsReply (reply.Direct request) first.responder.name (h ++ turn_steps m)
      (response_to first.responder.name h asked))
      (sym so.asked)
      (direct_is first.responder.name h request (response_to first.responder.name h asked)
      (so.answer_is first.responder.name h));
}

-- ---- what is said where a call answers

pub if_ok : {T E : Type 0} (result : Result T E) (P Q : T → Type 0) → ((value : T) → P value → Q value) → IfOk result P
    → IfOk result Q
if_ok (Ok value) P Q f p = f value p
if_ok (Err error) P Q f p = tt

pub on_ok : {T E : Type 0} (result : Result T E) (P Q : Type 0) → (P → Q) → OnOk result P → OnOk result Q
on_ok (Ok value) P Q f p = f p
on_ok (Err error) P Q f p = tt

pub on_err_too : {T E : Type 0} (result : Result T E) (P Q : Type 0) → (P → Q) → OnErr result P → OnErr result Q
on_err_too (Ok value) P Q f p = tt
on_err_too (Err error) P Q f p = f p

-- ---- what is written

-- a head for the length of a text, and the text, are the response
pub sent_body : (count : ℕ) (text body : List ℕ) (Said : List ℕ → Type 0) → count ≡ length text → text ≡ body
    → Said (head_text 200 false count ++ text) → Said (response_text 200 false body)
sent_body count text body Said long is said =
    subst (λ t. Said (head_text 200 false (length t) ++ t)) is
    (subst (λ n. Said (head_text 200 false n ++ text)) long said)

-- nothing was written yet
pub stops_unwritten : (response : Response) (wire : Option WireState) → StopsWriting (Some response) wire wire
stops_unwritten response None = tt
stops_unwritten response (Some wire) =
    on_same (WroteFront (response_text response.status response.plain response.body)) (Some wire)
    (λ a. record {
      front = [];
      rest = response_text response.status response.plain response.body;
      parts = refl;
      written = sym
          (append-nil a.written);
    })

-- a part that is lent is the one that is kept
pub lends_kept : (lent : LentPart) (part : OwnPart) (kept : Option OwnPart) → Some (part_of lent) ≡ kept
    → kept ≡ Some part → part_of lent ≡ part
lends_kept lent part kept lends is = let same : Some (part_of lent) ≡ Some part = lends ∙ is in cc same

pub part_said : (Said : Response → Type 0) (name other : List ℕ) (start number : ℕ) (lent : LentPart) (part : OwnPart)
    → name ≡ other → start ≡ number → part_of lent ≡ part
    → Said (delivering (part_delivery name lent.wanted.now lent.number start (part_sent lent.part)))
    → Said (delivering (part_delivery other part.wanted part.number number part.part))
part_said Said name other start number lent part named at is said =
    subst (λ (p : OwnPart). Said (delivering (part_delivery other p.wanted p.number number p.part))) is
    (subst (λ n. Said (delivering (part_delivery other lent.wanted.now lent.number n (part_sent lent.part)))) at
    (subst (λ n. Said (delivering (part_delivery n lent.wanted.now lent.number start (part_sent lent.part)))) named
    said))

-- ---- unless there was no memory

pub unless_then : {T : Type 0} (result : Result T HttpError) (a b c : Known) → SameButReads a b
    → UnlessMemory result (SameButReads b c) → UnlessMemory result (SameButReads a c)
unless_then (Ok value) a b c first then = same_then a b c first then
unless_then (Err error) a b c first then = by (is_memory error) then
  where
    by : (m : Bool) → MatchBool m ⊤ (SameButReads b c) → MatchBool m ⊤ (SameButReads a c)
    by true then = tt
    by false then = same_then a b c first then

-- where want of memory is told on, the other outcomes are left
pub unless_told : (written : Result (Unit {0}) HttpError) (result : Result (Unit {0}) OutOfMemory) (P : Type 0)
    → (IsErrOf written http.OutOfMemory → IsErr result) → UnlessMemory written P → OnOk result P
unless_told written (Err error) P memory p = tt
unless_told (Ok value) (Ok done) P memory p = p
unless_told (Err http.OutOfMemory) (Ok done) P memory p = absurd (cc (memory refl))
unless_told (Err http.WriteFault) (Ok done) P memory p = p
unless_told (Err http.ReadFault) (Ok done) P memory p = p
unless_told (Err http.Short) (Ok done) P memory p = p
unless_told (Err http.BadHead) (Ok done) P memory p = p
unless_told (Err http.HeadTooLong) (Ok done) P memory p = p
unless_told (Err http.NoLength) (Ok done) P memory p = p
unless_told (Err http.TransferCoding) (Ok done) P memory p = p
unless_told (Err http.BodyTooLong) (Ok done) P memory p = p
