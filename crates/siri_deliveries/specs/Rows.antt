-- Kinds of values and rows of the tables of messages and deliveries, which items have none of: what stands for an
-- absent member, flags that are written only where they are true, lists that may be empty, errors, and members of an
-- object of their own.
use Rattle.std.specs.Prelude.{◌≡◌, ℕ, ℤ, List, [], ◌∷◌, Bool, false, is_none, Option, IfSome, option_and_then}
use Rattle.std.specs.Prelude.{unwrap_or, Result, Ok, ⊤}
use Rattle.serde_json.specs.Data.{Data, no_members}
use Rattle.siri_tables.specs.Refusals.{Refusal, ◌>>=◌}
use Rattle.siri_tables.specs.Rules.{non_negative_span, flag, row, list, inside}
use Rattle.siri_tables.specs.Spelling.{Spells}
use Rattle.siri_tables.specs.Proper.{IsText, IsNonNegativeSpan, IsListWithin}
use Rattle.siri_tables.specs.Writing.{with_rows, object_unless_empty, written_list, written_span}
use Rattle.siri_tables.specs.Tables.{Kind, Row}
use Rattle.siri_deliveries.specs.Errors.{other_error}
use Rattle.siri_deliveries.specs.WrittenValues.{written_error, written_where_true}

-- ---- kinds of values

-- a span that isn't negative
abbrev pub a_whole_span : Kind ℤ
a_whole_span = record { rule = non_negative_span; writing = written_span; Is = IsNonNegativeSpan }

-- the text of an error
abbrev pub an_error : Kind (List ℕ)
an_error = record { rule = other_error; writing = written_error; Is = IsText }

-- ---- rows

-- the member of that name spells the value, or is absent where the value is what stands for an absent one
pub record SpellsOr {A : Type 0} (rule : Data → Result (Option A) Refusal) (key : List ℕ) (d : Data)
    (otherwise value : A) : Type 0 where
  pub given : Option A
  pub spelled : Spells rule key d given
  pub is : value ≡ unwrap_or given otherwise

-- a member that stands for a value where it is absent, and is always written
abbrev pub with_default : {A S : Type 0} → Kind A → A → List ℕ → (S → A) → Row S
with_default {A} kind otherwise key of = record {
  Of = A;
  of = of;
  read = λ d. row kind.rule key d >>= λ o. Ok (unwrap_or o otherwise);
  Spelled = λ d v. SpellsOr kind.rule key d otherwise v;
  write = λ v. (key, kind.writing v) ∷ [];
  Is = kind.Is;
  blank = λ v. false;
}

-- a flag that is false where it is absent, and is written only where it is true
abbrev pub flag_where_true : {S : Type 0} → List ℕ → (S → Bool) → Row S
flag_where_true key of = record {
  Of = Bool;
  of = of;
  read = λ d. row flag key d >>= λ o. Ok (unwrap_or o false);
  Spelled = λ d v. SpellsOr flag key d false v;
  write = λ v. (key, written_where_true v) ∷ [];
  Is = λ v. ⊤;
  blank = λ v. false;
}

-- a member with at most so many entries
abbrev pub entries : {A S : Type 0} → Kind A → ℕ → List ℕ → (S → List A) → Row S
entries {A} kind most key of = record {
  Of = List A;
  of = of;
  read = list kind.rule most key;
  Spelled = λ d xs. list kind.rule most key d ≡ Ok xs;
  write = λ xs. (key, written_list kind.writing xs) ∷ [];
  Is = IsListWithin most kind.Is;
  blank = λ xs. false;
}

-- the one member of an object of its own, which isn't written where it would be empty
abbrev pub optional_inside : {A S : Type 0} → Kind A → List ℕ → List ℕ → (S → Option A) → Row S
optional_inside {A} kind outer key of = record {
  Of = Option A;
  of = of;
  read = row (inside kind.rule key) outer;
  Spelled = λ d v. Spells (inside kind.rule key) outer d v;
  write = λ v. (outer, object_unless_empty (with_rows no_members ((key, option_and_then kind.writing v) ∷ []))) ∷ [];
  Is = λ v. IfSome v kind.Is;
  blank = λ v. is_none v;
}
