-- The relation of trees and messages, for rows that items have none of: a row inside an object of its own, errors, and lists
-- place by place.
use Rattle.std.specs.Prelude.{◌≡◌, ℕ, ◌≤◌, List, [], length, filter, map, not, Option, Some, None, Result, Ok}
use Rattle.serde_json.specs.Data.{Data}
use Rattle.siri_json.specs.Values.{Found, found, absent, wrong, member_of, object_in, entries_of}
use Rattle.siri_tables.specs.Refusals.{Refusal}
use Rattle.siri_tables.specs.Rules.{text, inside, is_null}
use Rattle.siri_tables.specs.Spelling.{Spells}
use Rattle.siri_deliveries.specs.declared.names.TheConstants.{ERROR_CONDITION, ERROR_TEXT, OTHER_ERROR}
use Rattle.siri_deliveries.specs.Errors.{other_error}

-- the text of an error
abbrev pub SpellsError : Data → Option (List ℕ) → Type 0
SpellsError d error = Spells other_error ERROR_CONDITION.now d error

-- what holds of the object that was found; what counts as absent spells nothing
abbrev pub SpellsFound : {A : Type 0} → Found Data → (Data → Option A → Type 0) → Option A → Type 0
SpellsFound (found o) P value = P o value
SpellsFound absent P value = value ≡ None
SpellsFound wrong P value = ⊥

-- the value is an object whose member of that name spells the value, or counts as absent
abbrev pub SpellsInside : {A : Type 0} → (Data → Result (Option A) Refusal) → List ℕ → Data → Option A → Type 0
SpellsInside rule key d value = SpellsFound (object_in d) (λ o given. Spells rule key o given) value

-- OtherError: an object with ErrorText
abbrev pub SpellsOtherError : Data → Option (List ℕ) → Type 0
SpellsOtherError d error = SpellsInside text ERROR_TEXT.now d error

-- ErrorCondition: an object whose member OtherError is one
abbrev pub SpellsErrorCondition : Data → Option (List ℕ) → Type 0
SpellsErrorCondition d error = SpellsInside (inside text ERROR_TEXT.now) OTHER_ERROR.now d error

-- each entry that isn't null spells the element at its place, and there are no others; without a member of that name there is
-- none
abbrev pub SpellsEntries : {A : Type 0} → (Data → Result (Option A) Refusal) → Option Data → List A → Type 0
SpellsEntries rule None xs = xs ≡ []
SpellsEntries rule (Some d) xs = map rule (filter (λ e. not (is_null e)) (entries_of d)) ≡ map (λ x. Ok (Some x)) xs

-- a list: its entries at a name, at most so many
pub record SpellsList {A : Type 0} (rule : Data → Result (Option A) Refusal) (most : ℕ) (key : List ℕ) (d : Data) (xs : List A) : Type 0 where
  pub entries : SpellsEntries rule (member_of key d) xs
  pub few : length xs ≤ most
