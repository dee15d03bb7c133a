-- How an end of the exchange takes part in it, by the state that it stands for (EN 15531-2 for what is said, RFC 9112 for
-- how).
use Rattle.std.specs.Prelude.{◌≡◌, ℕ, List, [], Option, None, Some, Ok}
use Rattle.siri_outside.specs.Wires.{WireState}
use Rattle.siri_messages.specs.declared.message.Message.{Message}
use Rattle.siri_wire.specs.Documents.{message_of}
use Rattle.siri_http.specs.declared.asked.Asked.{Asked}
use Rattle.siri_http.specs.declared.posting.Sent.{Sent}
use Rattle.siri_http.specs.declared.posting.Sent.TheVariants as sent
use Rattle.siri_ends.specs.declared.response.Response.{Response}
use Rattle.siri_ends.specs.Responses.{message_in}

-- what a connection is answered that asks this, the state after it, and what is to be sent then; the state after it heard a
-- message that was answered to this one that it sent, and what is to be sent then
pub record Manner (State M : Type 0) : Type 0 where
  pub responds : State → Asked → Option Response
  pub after : State → Asked → State
  pub sends : State → Asked → List M
  pub hears : State → (sent : M) → Message → State
  pub replies : State → (sent : M) → Message → List M

-- the message that a response brings: that of the body of a 200, where it is a document
unfoldable pub message_answered : Sent → Option Message
message_answered (sent.Accepted body) = message_in (message_of body)
message_answered other = None

-- a message that a document has
abbrev pub IsRead : Message → Type 0
IsRead message = (document : List ℕ) × (message_of document ≡ Ok message)

-- the state after such a message, where there is one
abbrev pub after_hearing : {State M : Type 0} → Manner State M → (sent : M) → Option Message → State → State
after_hearing manner sent None state = state
after_hearing manner sent (Some message) state = manner.hears state sent message

-- and what it brings
abbrev pub brings_of : {State M : Type 0} → Manner State M → (sent : M) → Option Message → State → List M
brings_of manner sent None state = []
brings_of manner sent (Some message) state = manner.replies state sent message

-- how messages are posted: the exchange of one with where it goes, or the first steps of that
abbrev pub Posting : Type 0 → Type 1
Posting M = M → Option Sent → (before after : Option WireState) → Type 0
