-- What is written of a request, by a connection that holds it (RFC 9112).
use Rattle.std.specs.Prelude.{◌≡◌, ◌≤◌, ℕ, true, List, [], ◌++◌, length, codes, Some, Ok}
use Rattle.std.specs.Char.{is_ascii_graphic}
use Rattle.std.specs.List.{list_all}
use Rattle.siri_outside.specs.Wires.{Connection}
use Rattle.siri_http.specs.Addresses.{address_of}
use Rattle.siri_http.specs.Bodies.{longest_body}
use Rattle.siri_http.specs.Messages.{Brings, IsRequest}
use Rattle.siri_http.specs.Requests.{Request}
use Rattle.siri_http.specs.Texts.{get_text, request_text}

-- a connection that holds a text first, and no read of which fails
abbrev pub holding : (text after write_fails : List ℕ) → Connection
holding text after write_fails = record { input = text ++ after; read_fails = []; write_fails = write_fails }

-- the host with its port and the path of the text of an address, which has 255 bytes at most
abbrev pub IsAddress : (text : List ℕ) → (address : List ℕ × List ℕ) → Type 0
IsAddress text address = (length text ≤ 255) × (address_of text ≡ Some address)

-- The POST of a body to an address is read as that.
abbrev pub IsPostAsWritten : Type 0
IsPostAsWritten = (text : List ℕ) (address : List ℕ × List ℕ) (body after write_fails : List ℕ)
    → IsAddress text address → length body ≤ longest_body
    → Brings IsRequest (holding (request_text address.0 address.1 body) after write_fails) (Ok ((codes "POST", address.1), body))

-- The GET of a target at the host of an address is read as that.
abbrev pub IsGetAsWritten : Type 0
IsGetAsWritten = (text : List ℕ) (address : List ℕ × List ℕ) (target after write_fails : List ℕ)
    → IsAddress text address → 1 ≤ length target → length target ≤ 16000 → list_all is_ascii_graphic target ≡ true
    → Brings IsRequest (holding (get_text address.0 target) after write_fails) (Ok ((codes "GET", target), []))

-- A connection brings one request, or one reason why there is none.
abbrev pub BringsOneRequest : Type 0
BringsOneRequest = (connection : Connection) (one other : Request) → Brings IsRequest connection one
    → Brings IsRequest connection other → one ≡ other
