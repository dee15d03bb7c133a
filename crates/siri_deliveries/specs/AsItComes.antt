-- What is read of a document as its tokens come, where it is read at all: each clause speaks of a call that returned Ok.
use Rattle.std.specs.Prelude.{◌≡◌, ℕ, List, [], ◌∷◌, Bool, true, false, Some, None, Result, Ok, bytes_eq}
use Rattle.std.specs.List.{list_any}
use Rattle.json.specs.Token.{Token}
use Rattle.json.specs.Json.{Json, Members, object, value}
use Rattle.json.specs.declared.error.Error.{Error as JsonError}
use Rattle.json.specs.declared.error.Error.TheVariants as json
use Rattle.serde_json.specs.Data.{Data}
use Rattle.serde_json.specs.Find.{get}
use Rattle.siri_json.specs.Shown.{data_of}
use Rattle.siri_json.specs.Values.{member_of}
use Rattle.siri_tables.specs.declared.refusal.TableError.{TableError}
use Rattle.siri_tables.specs.declared.refusal.TableError.TheVariants as tables
use Rattle.siri_tables.specs.Refusals.{Refusal}
use Rattle.siri_tables.specs.Rules.{table, list_of, at_most, or_empty, is_null}
use Rattle.siri_deliveries.specs.declared.incoming.NotRead.{NotRead}
use Rattle.siri_deliveries.specs.declared.incoming.NotRead.TheVariants as unread

-- ---- why nothing was read: there was no memory, or else it is refused, or of a rare form

abbrev pub unread_token : JsonError → NotRead
unread_token json.OutOfMemory = unread.OutOfMemory
unread_token other = unread.Otherwise

abbrev pub unread_table : TableError → NotRead
unread_table tables.OutOfMemory = unread.OutOfMemory
unread_table (tables.Refused path reason) = unread.Otherwise

-- ---- what was read

-- an object stood next, and its rows spell that
abbrev pub Comes : {A : Type 0} → (Data → Result A Refusal) → ℕ → List Token → List Token → A → Type 0
Comes rows depth before after out =
    (ms : Members) × (value depth before ≡ Some (object ms, after)) × (rows (data_of (object ms)) ≡ Ok out)

-- at most so many entries, objects of a table
abbrev pub entries : {A : Type 0} → (Data → Result A Refusal) → ℕ → Data → Result (List A) Refusal
entries rows most = at_most most (list_of (table rows))

-- a list stood next, and its entries spell these
abbrev pub ListComes : {A : Type 0} → (Data → Result (List A) Refusal) → ℕ → List Token → List Token → List A → Type 0
ListComes read depth before after out =
    (j : Json) × (value depth before ≡ Some (j, after)) × (is_null (data_of j) ≡ false) × (read (data_of j) ≡ Ok out)

-- a name is one of these
abbrev pub is_among : List (List ℕ) → List ℕ → Bool
is_among keys name = list_any (λ key. bytes_eq key name) keys

-- an object but for its members of these names
pub record AreOthers (keys : List (List ℕ)) (ms : Members) (others : Data) : Type 0 where
  pub same : (name : List ℕ) → is_among keys name ≡ false → get name (data_of (object ms)) ≡ get name others
  pub none : (name : List ℕ) → is_among keys name ≡ true → get name others ≡ None

-- what the member of a name is read as, nothing where there is none
abbrev pub IsOwn : {A : Type 0} → (Data → Result (List A) Refusal) → List ℕ → Members → List A → Type 0
IsOwn read key ms own = or_empty read (member_of key (data_of (object ms))) ≡ Ok own

-- an object stood next: the member of that name is read as these, and all others are in the tree
abbrev pub PartsCome : {A : Type 0} → (Data → Result (List A) Refusal) → List ℕ → ℕ → List Token → List Token → Data → List A → Type 0
PartsCome read key depth before after others own =
    (ms : Members) × (value depth before ≡ Some (object ms, after)) × AreOthers (key ∷ []) ms others × IsOwn read key ms own
