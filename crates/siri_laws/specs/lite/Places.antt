-- Connections in the places of those that bring queries (RFC 9112).
use Rattle.std.specs.Prelude.{◌≡◌, ◌≤◌, ◌⊎◌, ℕ, zero, suc, true, List, [], ◌∷◌, length, codes, None, Some, Ok}
use Rattle.siri_outside.specs.Wires.{Connection}
use Rattle.siri_http.specs.Bodies.{longest_body}
use Rattle.siri_http.specs.Messages.{Brings, IsRequest}
use Rattle.siri_http.specs.Requests.{Request}
use Rattle.siri_http.specs.Texts.{request_text}
use Rattle.siri_laws.specs.http.Written.{IsAddress, holding}
use Rattle.siri_queries.specs.Documents.{document_of}
use Rattle.siri_ends.specs.lite.Asking.{is_query}
use Rattle.siri_ends.specs.lite.Replacing.{HoldsPost}

-- a connection brings a GET of this target
abbrev pub BringsGet : (target body : List ℕ) → Connection → Type 0
BringsGet target body connection = Brings IsRequest connection (Ok ((codes "GET", target), body))

-- A connection brings a query of a known path, and another holds the POST of its document whole. No failure of reading is
-- named for the other, and the same of writing.
pub record HoldsItsPost (connection other : Connection) : Type 0 where
  pub target : List ℕ
  pub body : List ℕ
  pub document : List ℕ
  pub brings : BringsGet target body connection
  pub document_is : document_of target ≡ Some document
  pub path : List ℕ
  pub holds : HoldsPost path document other
  pub write_fails : other.write_fails ≡ connection.write_fails

-- a connection brings no query of a known path
abbrev pub BringsNoQuery : Connection → Type 0
BringsNoQuery connection = (target body document : List ℕ) → BringsGet target body connection → ¬ (document_of target ≡ Some document)

-- in the place of a connection is the POST of its query, or itself where it brings none
abbrev pub IsInPlace : (connection other : Connection) → Type 0
IsInPlace connection other = HoldsItsPost connection other ⊎ (BringsNoQuery connection × (other ≡ connection))

-- a connection brings no GET of an unknown path below `/siri-lite/`
abbrev pub KnowsItsPath : Connection → Type 0
KnowsItsPath connection = (target body : List ℕ) → BringsGet target body connection → is_query (codes "GET") target ≡ true
    → ¬ (document_of target ≡ None)

-- the same of a connection that brings none such
abbrev pub IsInPlaceOfKnown : (connection other : Connection) → Type 0
IsInPlaceOfKnown connection other = IsInPlace connection other × KnowsItsPath connection

-- of the connections to come the first so many have others in their places, and the later ones stay
abbrev pub AreInPlaces : (InPlace : Connection → Connection → Type 0) → ℕ → (coming others : List Connection) → Type 0
AreInPlaces InPlace zero coming others = others ≡ coming
AreInPlaces InPlace (suc count) [] others = others ≡ []
AreInPlaces InPlace (suc count) (first ∷ later) [] = ⊥
AreInPlaces InPlace (suc count) (first ∷ later) (other ∷ others) = InPlace first other × AreInPlaces InPlace count later others

-- ---- there are such connections

-- What is written of a document to an address is a POST that holds it whole.
abbrev pub HasPost : Type 0
HasPost = (text : List ℕ) (address : List ℕ × List ℕ) (document after write_fails : List ℕ)
    → IsAddress text address → length document ≤ longest_body
    → HoldsPost address.1 document (holding (request_text address.0 address.1 document) after write_fails)

-- Each connection of which something is read has one in its place.
abbrev pub HasOneInItsPlace : Type 0
HasOneInItsPlace = (connection : Connection) (request : Request) → Brings IsRequest connection request
    → (other : Connection) × IsInPlace connection other
