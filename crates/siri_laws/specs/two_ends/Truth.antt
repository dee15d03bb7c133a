-- What is so of a log: each message that was taken is what its connection brought, and each that was said is what was written to its
-- connection, or begins with it (RFC 9112).
use Rattle.std.specs.Prelude.{◌≡◌, ◌⊎◌, ⊤, ℕ, Bool, false, true, List, [], ◌++◌, All, Contains, Option, Some, Ok, slice_get}
use Rattle.siri_outside.specs.Wires.{Connection, Over, WireState}
use Rattle.siri_messages.specs.declared.message.Message.{Message}
use Rattle.siri_wire.specs.Canonical.{canonical}
use Rattle.siri_http.specs.Messages.{Brings, IsRequest}
use Rattle.siri_http.specs.Posts.{Answers}
use Rattle.siri_http.specs.Requests.{Meaning, WholeRequest}
use Rattle.siri_http.specs.Texts.{request_text, response_text}
use Rattle.siri_http.specs.declared.posting.Sent.{Sent}
use Rattle.siri_ends.specs.Manners.{message_answered}
use Rattle.siri_ends.specs.Responses.{message_asked}
use Rattle.siri_laws.specs.two_ends.Logs.{Accepted, Dialled, Done, Said, Took}

-- a connection that was accepted brings this message in its request, where one that is whole asks so
pub record BringsInRequest (asks : Meaning) (connection : Connection) (message : Message) : Type 0 where
  pub request : WholeRequest
  pub brings : Brings IsRequest connection (Ok request)
  pub message_is : message_asked (asks request) ≡ Some message

-- a connection that was dialled brings this message in its response
pub record BringsInResponse (connection : Connection) (message : Message) : Type 0 where
  pub outcome : Sent
  pub answers : Answers connection outcome
  pub message_is : message_answered outcome ≡ Some message

-- a connection of the log, in this place, brought the message
abbrev pub WasBrought : (asks : Meaning) → (log : List Done) → (by : ℕ) → Message → Type 0
WasBrought asks log by message =
    ((connection : Connection) × Contains log (Accepted by connection) × BringsInRequest asks connection message)
    ⊎ ((connection : Connection) × Contains log (Dialled by connection) × BringsInResponse connection message)

-- what is taken was brought
abbrev pub IsTaken : (asks : Meaning) → (log : List Done) → Done → Type 0
IsTaken asks log (Took by message) = WasBrought asks log by message
IsTaken asks log other = ⊤

-- a text begins so
pub record BeginsWith (text front : List ℕ) : Type 0 where
  pub rest : List ℕ
  pub parts : text ≡ front ++ rest

-- what was written to a connection of the log, in this place, is a front of the message, as a response or as a request
abbrev pub IsOf : (log : List Done) → (by : ℕ) → Message → (written : List ℕ) → Type 0
IsOf log by message written =
    ((connection : Connection) × Contains log (Accepted by connection)
    × BeginsWith (response_text 200 false (canonical message)) written)
    ⊎ ((connection : Connection) × Contains log (Dialled by connection) × (address : List ℕ × List ℕ)
    × BeginsWith (request_text address.0 address.1 (canonical message)) written)

-- the connection in this place is over, and that was written to it
abbrev pub WasWritten : (log : List Done) → (over : List Over) → (by : ℕ) → Message → Type 0
WasWritten log over by message = (one : Over) × (slice_get over by ≡ Some one) × IsOf log by message one.written

-- what is said was written
abbrev pub IsSaid : (log : List Done) → (over : List Over) → Done → Type 0
IsSaid log over (Said by message) = WasWritten log over by message
IsSaid log over other = ⊤

-- what was written begins a response that says no message: it is empty, or a line of plain text
abbrev pub IsNoMessage : (written : List ℕ) → Type 0
IsNoMessage written = (status : ℕ) × (plain : Bool) × (body : List ℕ) × ((body ≡ []) ⊎ (plain ≡ true))
    × BeginsWith (response_text status plain body) written

-- to each connection that came a message was said, or what was written to it is none
abbrev pub IsSpokenTo : (log : List Done) → (over : List Over) → Done → Type 0
IsSpokenTo log over (Accepted by connection) =
    ((message : Message) × Contains log (Said by message)) ⊎ ((one : Over) × (slice_get over by ≡ Some one) × IsNoMessage one.written)
IsSpokenTo log over (Dialled by connection) = (message : Message) × Contains log (Said by message)
IsSpokenTo log over other = ⊤

-- A log is true of what a wire told before and tells now: the connections that are over since stand behind those that were, each message
-- that was taken was brought, each that was said was written, and nothing else that is a message was.
pub record IsTrue (asks : Meaning) (log : List Done) (old : WireState) (wire : Option WireState) : Type 0 where
  pub now : WireState
  pub told : wire ≡ Some now
  pub more : List Over
  pub over : now.over ≡ old.over ++ more
  pub taken : All (IsTaken asks log) log
  pub said : All (IsSaid log now.over) log
  pub spoken : All (IsSpokenTo log now.over) log
