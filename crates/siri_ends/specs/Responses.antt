-- What an accepted connection is answered (EN 15531-2 for the messages, RFC 9110 for the statuses).
use Rattle.std.specs.Prelude.{ℕ, true, false, List, [], ◌∷◌, ◌++◌, Option, None, Some, Result, Ok, Err}
use Rattle.siri_tables.specs.Refusals.{Refusal}
use Rattle.siri_messages.specs.declared.message.Message.{Message}
use Rattle.siri_model.specs.History.{History, Take, Settle}
use Rattle.siri_producer.specs.Answers.{answer_to}
use Rattle.siri_wire.specs.Canonical.{canonical}
use Rattle.siri_wire.specs.Documents.{message_of, refusal_text}
use Rattle.siri_http.specs.Requests.{status_of, name_of}
use Rattle.siri_http.specs.declared.asked.Asked.{Asked}
use Rattle.siri_http.specs.declared.asked.Asked.TheVariants as asked
use Rattle.siri_ends.specs.declared.response.Response.{Response}

-- a refusal is told as a line of plain text
abbrev pub refusing : ℕ → List ℕ → Response
refusing status reason = record { status = status; plain = true; body = reason ++ 10 ∷ [] }

-- a reply is its canonical document; without a reply the body is empty
abbrev pub reply_body : Option Message → List ℕ
reply_body None = []
reply_body (Some message) = canonical message

abbrev pub replying : Option Message → Response
replying reply = record { status = 200; plain = false; body = reply_body reply }

-- what a POST of a document is answered, where a message is replied to so
abbrev pub responding_to : (reply : Message → Option Message) → Result Message Refusal → Response
responding_to reply (Ok message) = replying (reply message)
responding_to reply (Err refusal) = refusing 400 (refusal_text refusal)

-- what a connection is answered, where a message is replied to so; nothing where its request didn't come whole
unfoldable pub responding : (reply : Message → Option Message) → Asked → Option Response
responding reply (asked.Posted body) = Some (responding_to reply (message_of body))
responding reply (asked.Refused bad) = Some (refusing (status_of bad) (name_of bad))
responding reply asked.Short = None
responding reply asked.Failed = None

-- what a producer of this name replies to a message, after a history
abbrev pub producer_reply : (name : List ℕ) → History → Message → Option Message
producer_reply name h message = (answer_to name h message).reply

-- what it answers to a POST of a document
abbrev pub document_response : (name : List ℕ) → History → Result Message Refusal → Response
document_response name h document = responding_to (producer_reply name h) document

-- what it answers a connection
abbrev pub response_to : (name : List ℕ) → History → Asked → Option Response
response_to name h asked = responding (producer_reply name h) asked

-- the message of a document
abbrev pub message_in : Result Message Refusal → Option Message
message_in (Ok message) = Some message
message_in (Err refusal) = None

-- the message that a connection brings: that of a POST whose body is a document
unfoldable pub message_asked : Asked → Option Message
message_asked (asked.Posted body) = message_in (message_of body)
message_asked other = None

-- a message is taken, where there is one
abbrev pub taking : Option Message → History
taking None = []
taking (Some message) = Take message ∷ []

-- the steps of a producer in a turn: a message is taken, where there is one, and then it settles
abbrev pub turn_steps : Option Message → History
turn_steps message = taking message ++ Settle ∷ []
