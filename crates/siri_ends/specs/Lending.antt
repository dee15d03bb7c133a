-- An answer that is written from what a producer lends.
use Rattle.std.specs.Prelude.{◌≡◌, ⊤, ℕ, Bool, true, false, List, Option, Some}
use Rattle.siri_http.specs.declared.asked.Asked.{Asked}
use Rattle.siri_messages.specs.declared.deliveries.ServiceDelivery.{ServiceDelivery}
use Rattle.siri_messages.specs.declared.message.Message.{Message}
use Rattle.siri_messages.specs.declared.message.Message.TheVariants as message
use Rattle.siri_messages.specs.declared.requests.ServiceRequest.{ServiceRequest}
use Rattle.siri_messages.specs.declared.supplies.DataSupplyRequest.{DataSupplyRequest}
use Rattle.siri_model.specs.Direct as direct
use Rattle.siri_model.specs.History.{History, current, now_of, start_of}
use Rattle.siri_model.specs.Lives.{table_of}
use Rattle.siri_model.specs.Rows.{rows_of}
use Rattle.siri_producer.specs.Answers.{answer_to}
use Rattle.siri_producer.specs.Known.{Known, StandsFor}
use Rattle.siri_producer.specs.Lent.{OwnPart, is_lent, part_in, supplied_by}
use Rattle.siri_producer.specs.declared.lending.Supplied.TheVariants as supplied
use Rattle.siri_subscriptions.specs.replies.Parts.{part_delivery}
use Rattle.siri_subscriptions.specs.declared.outs.Out.{Out}
use Rattle.siri_ends.specs.declared.reply.Reply.{Reply}
use Rattle.siri_ends.specs.declared.reply.Reply.TheVariants as reply
use Rattle.siri_ends.specs.declared.response.Response.{Response}
use Rattle.siri_ends.specs.Responses.{message_asked, producer_reply, replying, response_to}
use Rattle.siri_ends.specs.Serving.{serving}
use Rattle.siri_ends.specs.EndCalls.{Turned}
use Rattle.siri_ends.specs.Turns.{AreWritten, TakesFor}

-- a response of this document, or of an empty body
abbrev pub of_document : List ℕ → Response
of_document body = record { status = 200; plain = false; body = body }

-- a response that is a delivery
abbrev pub delivering : ServiceDelivery → Response
delivering delivery = replying (Some (message.ServiceDelivery delivery))

-- ---- what is to be written

-- the wanted part of a subscription, as it is kept after a history
pub record LendsPart (subscriber subscription name : List ℕ) (h : History) (response : Option Response) : Type 0 where
  pub part : OwnPart
  pub kept : part_in subscriber subscription (rows_of (table_of h)) ≡ Some part
  pub response_is : response ≡ Some (delivering (part_delivery name part.wanted part.number (start_of h) part.part))

-- what a reply is, of a producer of this name that stands for a history
abbrev pub IsReply : Reply → (name : List ℕ) → History → Option Response → Type 0
IsReply (reply.Made made) name h response = response ≡ made
IsReply (reply.Direct request) name h response =
    response ≡ Some (delivering (direct.response name (now_of h) (current h) request))
IsReply (reply.Part subscriber subscription) name h response = LendsPart subscriber subscription name h response

-- a reply can be written: a response has one of the statuses that are written, and a request's items can be lent
abbrev pub CanBeWritten : Reply → Type 0
CanBeWritten (reply.Made made) = AreWritten made
CanBeWritten (reply.Direct request) = is_lent request ≡ true
CanBeWritten (reply.Part subscriber subscription) = ⊤

-- ---- what is taken before the settle

-- a response was made, and what is asked was taken
pub record Makes (first taken : Known) (message : Option Message) (answer : List ℕ → History → Option Response)
    (made : Option Response) : Type 0 where
  pub stands : TakesFor first taken message
  pub made_is : (h : History) → StandsFor first h → made ≡ answer first.responder.name h

-- a request is to be answered directly, and nothing was taken yet
pub record AnswersDirectly (first taken : Known) (brought : Option Message) (answer : List ℕ → History → Option Response)
    (request : ServiceRequest) : Type 0 where
  pub asked : brought ≡ Some (message.ServiceRequest request)
  pub same : taken ≡ first
  pub answer_is : (name : List ℕ) (h : History)
      → answer name h ≡ Some (replying (producer_reply name h (message.ServiceRequest request)))

-- a request for a part was taken, and the part is supplied
pub record Supplies (first taken : Known) (brought : Option Message) (answer : List ℕ → History → Option Response)
    (subscriber subscription : List ℕ) : Type 0 where
  pub request : DataSupplyRequest
  pub of_subscriber : subscriber ≡ request.consumer_ref
  pub of_subscription : subscription ≡ request.extensions.subscription
  pub asked : brought ≡ Some (message.DataSupplyRequest request)
  pub stands : TakesFor first taken (Some (message.DataSupplyRequest request))
  pub answer_is : (name : List ℕ) (h : History)
      → answer name h ≡ Some (replying (producer_reply name h (message.DataSupplyRequest request)))
  pub supplied_is : (h : History) → StandsFor first h
      → supplied_by (answer_to first.responder.name h (message.DataSupplyRequest request)).note ≡ supplied.Part

-- what is asked is replied to so, where it is to be answered so
abbrev pub Prepares : Known → Known → Option Message → (List ℕ → History → Option Response) → Reply → Type 0
Prepares first taken message answer (reply.Made made) = Makes first taken message answer made
Prepares first taken message answer (reply.Direct request) = AnswersDirectly first taken message answer request
Prepares first taken message answer
    (reply.Part subscriber subscription) = Supplies first taken message answer subscriber subscription

-- a message is a request for items, and its answer is lent
abbrev pub is_direct : Message → Bool
is_direct (message.ServiceRequest request) = is_lent request
is_direct other = false

-- what a message is replied to
abbrev pub message_response : Message → List ℕ → History → Option Response
message_response message name h = Some (replying (producer_reply name h message))

-- what a connection is answered
abbrev pub PreparesFor : Known → Known → Asked → Reply → Type 0
PreparesFor first taken asked reply = Prepares first taken (message_asked asked)
    (λ name h. response_to name h asked) reply

-- ---- and after it

-- The producer went through the turn of a connection, these messages are to be sent, and the reply is what the
-- connection is answered.
abbrev pub TurnedBy : Asked → List Out → Reply → (first last : Known) → Type 0
TurnedBy asked outs reply first last =
    Turned (λ known. known.responder.name) StandsFor serving (λ name reply h response. IsReply reply name h response) asked
    outs reply first last
