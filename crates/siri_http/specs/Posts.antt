-- A request that is sent, and what is answered (RFC 9112).
use Rattle.std.specs.Prelude.{◌≡◌, ℕ, Bool, true, false, ◌==◌, List, Option, None, Some, Ok, Err}
use Rattle.siri_outside.specs.Wires.{Connection, Present, WireState}
use Rattle.siri_http.specs.declared.errors.HttpError.{HttpError}
use Rattle.siri_http.specs.declared.errors.HttpError.TheVariants as http
use Rattle.siri_http.specs.Texts.{request_text}
use Rattle.siri_http.specs.Exchanges.{Response, Exchanges}
use Rattle.siri_http.specs.Exchanges.{Answers as AnswersBy, AnswersIf as AnswersIfBy, ByDial as ByDialBy}
use Rattle.siri_http.specs.Exchanges.{Hears as HearsBy, Talked as TalkedBy, Talks as TalksBy}
use Rattle.siri_http.specs.declared.posting.Sent.{Sent}
use Rattle.siri_http.specs.declared.posting.Sent.TheVariants as sent

-- what became of a request, by whether the status of its response is 200
abbrev pub by_status : Bool → List ℕ → Sent
by_status true body = sent.Accepted body
by_status false body = sent.Refused

-- what became of a request without a response; nothing is said where there was no memory
abbrev pub unheard_of : HttpError → Option Sent
unheard_of http.ReadFault = Some sent.Failed
unheard_of http.WriteFault = Some sent.Failed
unheard_of http.OutOfMemory = None
unheard_of other = Some sent.Refused

-- what became of a request with this response
abbrev pub sent_of : Response → Option Sent
sent_of (Ok response) = Some (by_status (response.0 == 200) response.1)
sent_of (Err error) = unheard_of error

-- ---- the exchange, where this is told, and Failed where the wire failed

abbrev pub Answers : Connection → Sent → Type 0
Answers = AnswersBy sent_of sent.Failed

abbrev pub AnswersIf : Bool → Connection → Sent → Type 0
AnswersIf = AnswersIfBy sent_of sent.Failed

abbrev pub Hears : Option Sent → WireState → WireState → Type 0
Hears = HearsBy sent_of sent.Failed

abbrev pub Talked : List ℕ → Sent → Option Present → WireState → WireState → Type 0
Talked = TalkedBy sent_of sent.Failed

abbrev pub Talks : List ℕ → Option Sent → WireState → WireState → Type 0
Talks = TalksBy sent_of sent.Failed

abbrev pub ByDial : List ℕ → List ℕ → Sent → Option WireState → WireState → WireState → Type 0
ByDial = ByDialBy sent_of sent.Failed

-- a request is sent to a host
abbrev pub PostsTo : List ℕ → List ℕ → Option Sent → WireState → WireState → Type 0
PostsTo = Exchanges sent_of sent.Failed

-- a text that is no address
abbrev pub PostsNowhere : Option Sent → WireState → WireState → Type 0
PostsNowhere None old new = new ≡ old
PostsNowhere (Some outcome) old new = (outcome ≡ sent.Refused) × (new ≡ old)

-- a body is sent to a host with its port, and a path, where the address has them
abbrev pub Posts : Option (List ℕ × List ℕ) → List ℕ → Option Sent → WireState → WireState → Type 0
Posts None body outcome old new = PostsNowhere outcome old new
Posts (Some address) body outcome old new = PostsTo address.0 (request_text address.0 address.1 body) outcome old new
