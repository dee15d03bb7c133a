-- What a part of a turn does.
use Rattle.std.specs.Prelude.{◌≡◌, ⊤, true, List, ◌++◌, Option, None, Some, Result}
use Rattle.siri_http.specs.Texts.{is_written}
use Rattle.siri_tables.specs.Refusals.{Refusal}
use Rattle.siri_messages.specs.declared.message.Message.{Message}
use Rattle.siri_model.specs.History.{History}
use Rattle.siri_producer.specs.Known.{Known, StandsFor}
use Rattle.siri_http.specs.declared.asked.Asked.{Asked}
use Rattle.siri_subscriptions.specs.declared.outs.Out.{Out}
use Rattle.siri_ends.specs.declared.answering.Brought.{Brought}
use Rattle.siri_ends.specs.declared.answering.Brought.TheVariants as brought
use Rattle.siri_ends.specs.declared.response.Response.{Response}
use Rattle.siri_ends.specs.Responses.{message_asked, message_in, replying, responding, responding_to, taking}
use Rattle.siri_ends.specs.Serving.{after_acknowledging, settled_by}

-- ---- what a connection brings

abbrev pub message_brought : Brought → Option Message
message_brought (brought.Message message) = Some message
message_brought other = None

-- what it is answered, where a message is replied to so
abbrev pub answered : (reply : Message → Option Message) → Brought → Option Response
answered reply (brought.Message message) = Some (replying (reply message))
answered reply (brought.Refused response) = Some response
answered reply brought.Nothing = None

-- a response has one of the statuses that are written
abbrev pub AreWritten : Option Response → Type 0
AreWritten None = ⊤
AreWritten (Some response) = is_written response.status ≡ true

-- a refusal that is brought has one of the statuses that are written
abbrev pub IsWrittenIfRefused : Brought → Type 0
IsWrittenIfRefused (brought.Refused response) = is_written response.status ≡ true
IsWrittenIfRefused other = ⊤

-- what the body of a POST brings
pub record BringsDocument (document : Result Message Refusal) (brought : Brought) : Type 0 where
  pub message : message_in document ≡ message_brought brought
  pub answer : (reply : Message → Option Message) → Some (responding_to reply document) ≡ answered reply brought
  pub written : IsWrittenIfRefused brought

-- what a connection brings that asks this
pub record Brings (asked : Asked) (brought : Brought) : Type 0 where
  pub message : message_asked asked ≡ message_brought brought
  pub answer : (reply : Message → Option Message) → responding reply asked ≡ answered reply brought
  pub written : IsWrittenIfRefused brought

-- ---- a producer

-- whatever history a producer stood for before a call, it stands for that history and these steps after it
abbrev pub GoesBy : Known → Known → History → Type 0
GoesBy old new steps = (h : History) → StandsFor old h → StandsFor new (h ++ steps)

-- a message is taken, where there is one
abbrev pub TakesFor : Known → Known → Option Message → Type 0
TakesFor old new message = GoesBy old new (taking message)

-- an acknowledgement is taken and settled, where there is one, and these messages are to be sent
pub record Acknowledges (old new : Known) (message : Option Message) (outs : List Out) : Type 0 where
  pub name : new.responder.name ≡ old.responder.name
  pub stands : (h : History) → StandsFor old h → StandsFor new (after_acknowledging message h)
  pub outs_are : (h : History) → StandsFor old h → outs ≡ settled_by old.responder.name message h
