-- Tables of rows, as data: of each row how it is read, what spells it, how it is written, and which of its values are proper.
-- What holds of every table is said once, over any of them.
use Rattle.std.specs.Prelude.{◌≡◌, ◌≤◌, ℕ, List, [], ◌∷◌, ◌++◌, length, Bool, true, false, ◌&&◌, is_none, ℤ, Option, Some, IfSome}
use Rattle.std.specs.Prelude.{option_and_then, Result, Ok, ⊤}
use Rattle.serde_json.specs.Data.{Data, no_members}
use Rattle.siri_tables.specs.Refusals.{Refusal, ◌>>=◌}
use Rattle.siri_tables.specs.Rules.{name, text, moment, span, number, decimal, flag, row, required_row, list, nonempty_list, list_inside}
use Rattle.siri_tables.specs.Spelling.{Spells}
use Rattle.siri_tables.specs.Proper.{IsName, IsText, IsMoment, IsSpan, IsNumber, IsDecimal, IsListWithin}
use Rattle.siri_tables.specs.Writing.{Row as Member, with_rows, object_unless_empty, written_list, written_text, written_flag}
use Rattle.siri_tables.specs.Writing.{written_number, written_moment, written_span, written_decimal}

-- ---- kinds of values

-- how a value is read and written, and which values are proper
pub record Kind (A : Type 0) : Type 1 where
  pub rule : Data → Result (Option A) Refusal
  pub writing : A → Option Data
  pub Is : A → Type 0

abbrev pub a_name : Kind (List ℕ)
a_name = record { rule = name; writing = written_text; Is = IsName }

abbrev pub a_text : Kind (List ℕ)
a_text = record { rule = text; writing = written_text; Is = IsText }

abbrev pub a_moment : Kind ℕ
a_moment = record { rule = moment; writing = written_moment; Is = IsMoment }

abbrev pub a_span : Kind ℤ
a_span = record { rule = span; writing = written_span; Is = IsSpan }

abbrev pub a_number : Kind ℕ
a_number = record { rule = number; writing = written_number; Is = IsNumber }

abbrev pub a_decimal : Kind ℤ
a_decimal = record { rule = decimal; writing = written_decimal; Is = IsDecimal }

-- a flag is always proper
abbrev pub a_flag : Kind Bool
a_flag = record { rule = flag; writing = written_flag; Is = λ b. ⊤ }

-- ---- rows

-- a row of the table of S: its value and where it stands in S, how it is read and what spells it, the members that are written
-- of it, which of its values are proper, and which count as absent
pub record Row (S : Type 0) : Type 1 where
  pub Of : Type 0
  pub of : S → Of
  pub read : Data → Result Of Refusal
  pub Spelled : Data → Of → Type 0
  pub write : Of → List Member
  pub Is : Of → Type 0
  pub blank : Of → Bool

-- a member that need not be there
abbrev pub optional : {A S : Type 0} → Kind A → List ℕ → (S → Option A) → Row S
optional {A} kind key of = record {
  Of = Option A;
  of = of;
  read = row kind.rule key;
  Spelled = λ d v. Spells kind.rule key d v;
  write = λ v. (key, option_and_then kind.writing v) ∷ [];
  Is = λ v. IfSome v kind.Is;
  blank = λ v. is_none v;
}

-- a member that has to be there
abbrev pub mandatory : {A S : Type 0} → Kind A → List ℕ → (S → A) → Row S
mandatory {A} kind key of = record {
  Of = A;
  of = of;
  read = required_row kind.rule key;
  Spelled = λ d v. Spells kind.rule key d (Some v);
  write = λ v. (key, kind.writing v) ∷ [];
  Is = kind.Is;
  blank = λ v. false;
}

-- a member with at most so many entries, and at least one
abbrev pub some_entries : {A S : Type 0} → Kind A → ℕ → List ℕ → (S → List A) → Row S
some_entries {A} kind most key of = record {
  Of = List A;
  of = of;
  read = nonempty_list kind.rule most key;
  Spelled = λ d xs. nonempty_list kind.rule most key d ≡ Ok xs;
  write = λ xs. (key, written_list kind.writing xs) ∷ [];
  Is = λ xs. IsListWithin most kind.Is xs × (1 ≤ length xs);
  blank = λ xs. false;
}

-- at most so many entries inside an object of their own
abbrev pub entries_inside : {A S : Type 0} → Kind A → ℕ → List ℕ → List ℕ → (S → List A) → Row S
entries_inside {A} kind most outer key of = record {
  Of = List A;
  of = of;
  read = list_inside outer (list kind.rule most key);
  Spelled = λ d xs. list_inside outer (list kind.rule most key) d ≡ Ok xs;
  write = λ xs. (outer, object_unless_empty (with_rows no_members ((key, written_list kind.writing xs) ∷ []))) ∷ [];
  Is = IsListWithin most kind.Is;
  blank = λ xs. false;
}

-- ---- tables

abbrev pub Table : Type 0 → Type 1
Table S = List (Row S)

-- what makes an S of the values of the rows
abbrev pub Maker : {S : Type 0} → Table S → Type 0
Maker {S} [] = S
Maker (r ∷ t) = r.Of → Maker t

-- the rows are read in order, and the first refusal stands
abbrev pub read_all : {S : Type 0} (t : Table S) → Maker t → Data → Result S Refusal
read_all [] made d = Ok made
read_all (r ∷ t) make d = r.read d >>= λ x. read_all t (make x) d

-- each row is spelled
abbrev pub AllSpelled : {S : Type 0} → Table S → Data → S → Type 0
AllSpelled [] d s = ⊤
AllSpelled (r ∷ t) d s = r.Spelled d (r.of s) × AllSpelled t d s

-- each row is proper
abbrev pub AllProper : {S : Type 0} → Table S → S → Type 0
AllProper [] s = ⊤
AllProper (r ∷ t) s = r.Is (r.of s) × AllProper t s

-- the members that are written of all rows
abbrev pub all_written : {S : Type 0} → Table S → S → List Member
all_written [] s = []
all_written (r ∷ t) s = r.write (r.of s) ++ all_written t s

-- all rows are absent
abbrev pub all_blank : {S : Type 0} → Table S → S → Bool
all_blank [] s = true
all_blank (r ∷ t) s = r.blank (r.of s) && all_blank t s

-- rows of one table that stand together in another, as the standard's groups do, and how they are read
abbrev pub together : {S T : Type 0} → Table T → (Data → Result T Refusal) → (S → T) → Row S
together {T = T} t read of = record {
  Of = T;
  of = of;
  read = read;
  Spelled = AllSpelled t;
  write = all_written t;
  Is = AllProper t;
  blank = all_blank t;
}
