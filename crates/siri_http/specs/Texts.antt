-- The texts of requests and responses that are written (RFC 9112, sections 3 and 4; RFC 9110, section 15, for the statuses).
use Rattle.std.specs.Prelude.{◌≡◌, ℕ, ◌<◌, Bool, true, false, List, [], ◌∷◌, ◌++◌, ◌==◌, length, take, codes, unwrap_or, Result, Ok, Err}
use Rattle.std.specs.List.{list_any}
use Rattle.std.specs.Fmt.{decimal}
use Rattle.http.specs.StatusCode.{code_digits, reason_phrase}
use Rattle.siri_outside.specs.Failures.{Passes}
use Rattle.siri_outside.specs.Wires.{Present}
use Rattle.siri_http.specs.declared.errors.HttpError.{HttpError}
use Rattle.siri_http.specs.declared.errors.HttpError.TheVariants as http

-- a line ends with CR LF
abbrev pub ended : List ℕ → List ℕ
ended line = line ++ 13 ∷ 10 ∷ []

-- the last lines of a head: that no further message comes by the connection, and an empty line
abbrev pub closing : List ℕ
closing = ended (codes "Connection: close") ++ ended []

-- the end of a head: the length of the body, and the last lines
abbrev pub head_end : ℕ → List ℕ
head_end count = ended (codes "Content-Length: " ++ decimal count) ++ closing

-- the first lines of a request of this method, with a space behind it: its target, and the host with its port
abbrev pub request_begin : (method host target : List ℕ) → List ℕ
request_begin method host target = ended (method ++ (target ++ codes " HTTP/1.1")) ++ ended (codes "Host: " ++ host)

-- a POST to this target at this host, with its port
unfoldable pub request_text : List ℕ → List ℕ → List ℕ → List ℕ
request_text host path body =
    request_begin (codes "POST ") host path ++ (ended (codes "Content-Type: application/json") ++ (head_end (length body) ++ body))

-- a GET of this target at this host, with its port; it has no body
unfoldable pub get_text : (host target : List ℕ) → List ℕ
get_text host target = request_begin (codes "GET ") host target ++ closing

-- the statuses that are written
abbrev pub is_written : ℕ → Bool
is_written status = list_any (λ one. one == status) (200 ∷ 400 ∷ 404 ∷ 405 ∷ 411 ∷ 413 ∷ 431 ∷ 501 ∷ [])

-- the phrase of a status
unfoldable pub phrase_of : ℕ → List ℕ
phrase_of status = unwrap_or (reason_phrase status) []

-- the type of a body
abbrev pub type_of : Bool → List ℕ
type_of true = codes "text/plain"
type_of false = codes "application/json"

-- the head of a response of this status, for a body of so many bytes
unfoldable pub head_text : ℕ → Bool → ℕ → List ℕ
head_text status plain count =
    ended (codes "HTTP/1.1 " ++ (code_digits status ++ (codes " " ++ phrase_of status)))
    ++ (ended (codes "Content-Type: " ++ type_of plain) ++ head_end count)

-- a response of this status: its head, and its body
abbrev pub response_text : ℕ → Bool → List ℕ → List ℕ
response_text status plain body = head_text status plain (length body) ++ body

-- a failure came within the text, which was written as far as that
abbrev pub IsCut : List ℕ → List ℕ → List ℕ → List ℕ → List ℕ → Type 0
IsCut text [] new before after = ⊥
IsCut text (count ∷ later) new before after = (count < length text) × (new ≡ later) × (after ≡ before ++ take count text)

-- a front of the text was written
pub record IsFront (text old new before after : List ℕ) : Type 0 where
  pub front : List ℕ
  pub rest : List ℕ
  pub parts : text ≡ front ++ rest
  pub fails : Passes old new (length front)
  pub written : after ≡ before ++ front

-- what a call puts into a connection: the text, or what its failures of writing let of it; a front where there was no memory
abbrev pub Puts : List ℕ → Result (Unit {0}) HttpError → List ℕ → List ℕ → List ℕ → List ℕ → Type 0
Puts text (Ok done) old new before after = Passes old new (length text) × (after ≡ before ++ text)
Puts text (Err http.WriteFault) old new before after = IsCut text old new before after
Puts text (Err http.OutOfMemory) old new before after = IsFront text old new before after
Puts text (Err other) old new before after = ⊥

-- a text was written to a connection, and what is to be read of it stays
pub record PutsText (text : List ℕ) (result : Result (Unit {0}) HttpError) (before after : Present) : Type 0 where
  pub puts : Puts text result before.left.write_fails after.left.write_fails before.written after.written
  pub unread : after.left.input ≡ before.left.input
  pub read_fails : after.left.read_fails ≡ before.left.read_fails
