-- The laws of tables, by induction over a table, of the laws of its rows.
use Rattle.std.proofs.Common.{◌≡◌, ℕ, suc, ◌≤◌, Bool, true, false, not, ◌&&◌, nat_le, List, [], ◌∷◌, ◌++◌, length, Option, Some, None}
use Rattle.std.proofs.Common.{Result, Ok, refl, sym, ap, ◌∙◌, subst, bytes_eq}
use Rattle.std.specs.Prelude.{IfSome, option_and_then, ◌↔◌, ⊤}
use Rattle.std.specs.List.{AllByRecursion}
use Rattle.std.proofs.lemmas.Bool.{and_parts, leb-true}
use Rattle.std.proofs.lemmas.Slice.Eq.{bytes_eq-Decides}
use Rattle.serde_json.specs.Data.{Data, object, no_members}
use Rattle.siri_json.specs.Canonical.{as_texts}
use Rattle.siri_json.specs.TextsOfTrees.{TextsAreUtf8}
use Rattle.siri_json.specs.Values.{member_of}
use Rattle.siri_tables.specs.Refusals.{Refusal}
use Rattle.siri_tables.specs.Rules.{table, table_unless_blank}
use Rattle.siri_tables.specs.Spelling.{Spells}
use Rattle.siri_tables.specs.Proper.{IsListWithin}
use Rattle.siri_tables.specs.Writing.{Row as Member, row_object, with_rows, object_unless_empty, written_list}
use Rattle.siri_tables.specs.Tables.{Kind, Row, optional, mandatory, some_entries, entries_inside, Table, Maker, read_all, AllSpelled}
use Rattle.siri_tables.specs.Tables.{AllProper, all_written, together}
use Rattle.siri_tables.proofs.Back.{found_again, GivesBack, in_rows, member_again}
use Rattle.siri_tables.proofs.BackLists.{EntryBack, table_entry, list_inside_back, nonempty_list_back, object_unless_empty_back}
use Rattle.siri_tables.proofs.BackValues.{table_back, table_unless_blank_back}
use Rattle.siri_tables.proofs.RowSpells.{bind_ok, ok_is, row_spelled, required_row_spelled, row_ok, required_row_ok}
use Rattle.siri_tables.proofs.CanonicalParts.{are_ascii, IsCanonicalWithin, MayBeWithin, IsRowWithin, deeper, row_within, object_within}
use Rattle.siri_tables.proofs.CanonicalParts.{list_within, object_unless_empty_within}
use Rattle.siri_tables.proofs.ProperParts.{Yields, reads_to, on_ok, row_is, table_yields, table_unless_blank_yields, nonempty_list_on, lists_inside_on}

-- ---- kinds and rows

-- what is written of a proper value is read back and isn't deep, and what is read is proper
pub record KindLaws {A : Type 0} (most : ℕ) (kind : Kind A) : Type 0 where
  pub back : (x : A) → kind.Is x → GivesBack kind.rule (kind.writing x) (Some x)
  pub within : (x : A) → kind.Is x → MayBeWithin most (kind.writing x)
  pub yields : Yields kind.rule kind.Is

-- the same, and each value is written as an entry of a list can be
pub record EntryLaws {A : Type 0} (most : ℕ) (kind : Kind A) : Type 0 where
  pub entry : (x : A) → kind.Is x → EntryBack kind.rule kind.writing x
  pub within : (x : A) → kind.Is x → MayBeWithin most (kind.writing x)
  pub yields : Yields kind.rule kind.Is

-- the members that were written are found again
abbrev pub FoundAgain : Data → List Member → Type 0
FoundAgain d ms = AllByRecursion (λ m. member_of m.0 d ≡ found_again m.1) ms

pub record RowLaws {S : Type 0} (most : ℕ) (r : Row S) : Type 0 where
  pub spelled : (d : Data) (x : r.Of) → r.read d ≡ Ok x → r.Spelled d x
  pub reads : (d : Data) (x : r.Of) → r.Spelled d x → r.read d ≡ Ok x
  pub back : (d : Data) (x : r.Of) → r.Is x → FoundAgain d (r.write x) → r.Spelled d x
  pub within : (x : r.Of) → r.Is x → AllByRecursion (IsRowWithin most) (r.write x)
  pub proper : (d : Data) (x : r.Of) → TextsAreUtf8 d → r.Spelled d x → r.Is x

pub some_back : {A : Type 0} (least : ℕ) (kind : Kind A) → KindLaws least kind → (o : Option A) → IfSome o kind.Is
    → GivesBack kind.rule (option_and_then kind.writing o) o
some_back least kind laws None is = refl
some_back least kind laws (Some x) is = laws.back x is

pub some_within : {A : Type 0} (least : ℕ) (kind : Kind A) → KindLaws least kind → (o : Option A) → IfSome o kind.Is
    → MayBeWithin least (option_and_then kind.writing o)
some_within least kind laws None is = tt
some_within least kind laws (Some x) is = laws.within x is

pub at_key : {A : Type 0} (rule : Data → Result (Option A) Refusal) (key : List ℕ) (d : Data) (written : Option Data) (value : Option A)
    → member_of key d ≡ found_again written → GivesBack rule written value → Spells rule key d value
at_key rule key d written value there again = rw there again

pub at_depth : (least most : ℕ) (key : List ℕ) (written : Option Data) → are_ascii key ≡ true → nat_le least most ≡ true
    → MayBeWithin least written → IsRowWithin most (key, written)
at_depth least most key written ascii le is = row_within most key written ascii (deeper least most written (leb-true _ _ le) is)

pub optional_laws : {A S : Type 0} {least most : ℕ} {kind : Kind A} {key : List ℕ} {of : S → Option A}
    → KindLaws least kind → are_ascii key ≡ true → nat_le least most ≡ true → RowLaws most (optional kind key of)
optional_laws {least = least} {most = most} {kind = kind} {key = key} laws ascii le = record {
  spelled = λ d x. row_spelled kind.rule key d x;
  reads = λ d x. row_ok kind.rule key d x;
  back = λ d x is there. at_key kind.rule key d (option_and_then kind.writing x) x there.0 (some_back least kind laws x is);
  within = λ x is. (at_depth least most key _ ascii le (some_within least kind laws x is), tt);
  proper = λ d x u spells. row_is kind.rule kind.Is laws.yields key d x u spells;
}

pub mandatory_laws : {A S : Type 0} {least most : ℕ} {kind : Kind A} {key : List ℕ} {of : S → A} → KindLaws least kind
    → are_ascii key ≡ true → nat_le least most ≡ true → RowLaws most (mandatory kind key of)
mandatory_laws {least = least} {most = most} {kind = kind} {key = key} laws ascii le = record {
  spelled = λ d x. required_row_spelled kind.rule key d x;
  reads = λ d x. required_row_ok kind.rule key d x;
  back = λ d x is there. at_key kind.rule key d (kind.writing x) (Some x) there.0 (laws.back x is);
  within = λ x is. (at_depth least most key _ ascii le (laws.within x is), tt);
  proper = λ d x u spells. row_is kind.rule kind.Is laws.yields key d (Some x) u spells;
}

all_entries : {A : Type 0} (least : ℕ) (kind : Kind A) → EntryLaws least kind → (xs : List A)
    → AllByRecursion kind.Is xs → AllByRecursion (EntryBack kind.rule kind.writing) xs
all_entries least kind laws [] all = tt
all_entries least kind laws (x ∷ xs) all = (laws.entry x all.0, all_entries least kind laws xs all.1)

all_entries_within : {A : Type 0} (least : ℕ) (kind : Kind A) → EntryLaws least kind → (xs : List A)
    → AllByRecursion kind.Is xs → AllByRecursion (λ x. MayBeWithin least (kind.writing x)) xs
all_entries_within least kind laws [] all = tt
all_entries_within least kind laws (x ∷ xs) all = (laws.within x all.0, all_entries_within least kind laws xs all.1)

entries_within : {A : Type 0} (least : ℕ) (kind : Kind A) → EntryLaws least kind → (xs : List A)
    → AllByRecursion kind.Is xs → MayBeWithin (suc least) (written_list kind.writing xs)
entries_within least kind laws xs all = list_within least kind.writing xs (all_entries_within least kind laws xs all)

pub some_entries_laws : {A S : Type 0} {least most : ℕ} {kind : Kind A} {bound : ℕ} {key : List ℕ} {of : S → List A}
    → EntryLaws least kind → are_ascii key ≡ true → nat_le (suc least) most ≡ true
    → RowLaws most (some_entries kind bound key of)
some_entries_laws {least = least} {most = most} {kind = kind} {bound = bound} {key = key} laws ascii le = record {
  spelled = λ d xs e. e;
  reads = λ d xs e. e;
  back = λ d xs is there. nonempty_list_back kind.rule kind.writing bound key d xs (all_entries least kind laws xs is.0.each) is.1 is.0.bound there.0;
  within = λ xs is. (at_depth (suc least) most key _ ascii le (entries_within least kind laws xs is.0.each), tt);
  proper = λ d xs u e. on_ok (λ ys. IsListWithin bound kind.Is ys × (1 ≤ length ys)) _ xs (nonempty_list_on kind.rule kind.Is laws.yields bound key d u) e;
}

inner_within : {A : Type 0} (least : ℕ) (kind : Kind A) (key : List ℕ) → EntryLaws least kind → are_ascii key ≡ true → (xs : List A) → AllByRecursion kind.Is xs
    → MayBeWithin (suc (suc least)) (object_unless_empty (with_rows no_members ((key, written_list kind.writing xs) ∷ [])))
inner_within least kind key laws ascii xs all =
    object_unless_empty_within (suc (suc least)) _
    (object_within (suc least) ((key, written_list kind.writing xs) ∷ [])
    (row_within (suc least) key _ ascii (entries_within least kind laws xs all), tt))

pub entries_inside_laws : {A S : Type 0} {least most : ℕ} {kind : Kind A} {bound : ℕ} {outer : List ℕ} {of : S → List A}
    (key : List ℕ) → EntryLaws least kind → are_ascii outer ≡ true → are_ascii key ≡ true
    → nat_le (suc (suc least)) most ≡ true
    → RowLaws most (entries_inside kind bound outer key of)
entries_inside_laws {least = least} {most = most} {kind = kind} {bound = bound} {outer = outer} key laws outer_ascii ascii le = record {
  spelled = λ d xs e. e;
  reads = λ d xs e. e;
  back = λ d xs is there. list_inside_back kind.rule kind.writing bound outer key d xs (all_entries least kind laws xs is.each) is.bound there.0;
  within = λ xs is. (at_depth (suc (suc least)) most outer _ outer_ascii le (inner_within least kind key laws ascii xs is.each), tt);
  proper = λ d xs u e. on_ok (IsListWithin bound kind.Is) _ xs (lists_inside_on kind.rule kind.Is laws.yields bound outer key d u) e;
}

-- ---- tables

abbrev pub AllLaws : {S : Type 0} → ℕ → Table S → Type 0
AllLaws most [] = ⊤
AllLaws most (r ∷ t) = RowLaws most r × AllLaws most t

-- the values that stand in s make it again
abbrev pub made_of : {S : Type 0} (t : Table S) → Maker t → S → S
made_of [] made s = made
made_of (r ∷ t) make s = made_of t (make (r.of s)) s

-- what is made of values holds them, row by row
abbrev pub Holds : {S : Type 0} (t : Table S) → Maker t → (S → Type 0) → Type 0
Holds [] made P = P made
Holds (r ∷ t) make P = (x : r.Of) → Holds t (make x) (λ s. (r.of s ≡ x) × P s)

-- what is spelled is read
all_read : {S : Type 0} (most : ℕ) (t : Table S) (make : Maker t) → AllLaws most t → (d : Data) (s : S)
    → AllSpelled t d s → read_all t make d ≡ Ok (made_of t make s)
all_read most [] made laws d s is = refl
all_read most (r ∷ t) make laws d s is = rw (laws.0.reads d (r.of s) is.0) (all_read most t (make (r.of s)) laws.1 d s is.1)

-- what is read is spelled, and all that holds of what is made holds of it
spelled_and : {S : Type 0} (most : ℕ) (t : Table S) (make : Maker t) → AllLaws most t → (d : Data) (s : S)
    → read_all t make d ≡ Ok s → (P : S → Type 0) → Holds t make P → AllSpelled t d s × P s
spelled_and most [] made laws d s e P holds = (tt, subst P (ok_is made s e) holds)
spelled_and {S = S} most (r ∷ t) make laws d s e P holds =
    let b = bind_ok (r.read d) (λ x. read_all t (make x) d) s e in
    let rest = spelled_and most t (make b.0) laws.1 d s b.2 (λ s. (r.of s ≡ b.0) × P s) (holds b.0) in
    ((subst (λ x. r.Spelled d x) (sym rest.1.0) (laws.0.spelled d b.0 b.1), rest.0), rest.1.1)

-- what is read is proper
all_proper : {S : Type 0} (most : ℕ) (t : Table S) → AllLaws most t → (d : Data) (s : S) → TextsAreUtf8 d → AllSpelled t d s → AllProper t s
all_proper most [] laws d s u is = tt
all_proper most (r ∷ t) laws d s u is = (laws.0.proper d (r.of s) u is.0, all_proper most t laws.1 d s u is.1)

-- ---- what is written

both_parts : {A : Type 0} (P : A → Type 0) (xs ys : List A) → AllByRecursion P (xs ++ ys) → AllByRecursion P xs × AllByRecursion P ys
both_parts P [] ys all = (tt, all)
both_parts P (x ∷ xs) ys all = let parts = both_parts P xs ys all.1 in ((all.0, parts.0), parts.1)

pub all_joined : {A : Type 0} (P : A → Type 0) (xs ys : List A) → AllByRecursion P xs → AllByRecursion P ys → AllByRecursion P (xs ++ ys)
all_joined P [] ys left right = right
all_joined P (x ∷ xs) ys left right = (left.0, all_joined P xs ys left.1 right)

all_within : {S : Type 0} (most : ℕ) (t : Table S) → AllLaws most t → (s : S) → AllProper t s → AllByRecursion (IsRowWithin most) (all_written t s)
all_within most [] laws s is = tt
all_within most (r ∷ t) laws s is = all_joined (IsRowWithin most) (r.write (r.of s)) (all_written t s)
    (laws.0.within (r.of s) is.0) (all_within most t laws.1 s is.1)

all_back : {S : Type 0} (most : ℕ) (t : Table S) → AllLaws most t → (d : Data) (s : S) → AllProper t s → FoundAgain d (all_written t s) → AllSpelled t d s
all_back most [] laws d s is there = tt
all_back most (r ∷ t) laws d s is there =
    let parts = both_parts (λ m. member_of m.0 d ≡ found_again m.1) (r.write (r.of s)) (all_written t s) there in
    (laws.0.back d (r.of s) is.0 parts.0, all_back most t laws.1 d s is.1 parts.1)

-- no member has that name; the names are distinct: for a table of constants both are found by computing
abbrev is_fresh : List ℕ → List Member → Bool
is_fresh k [] = true
is_fresh k (m ∷ ms) = (not (bytes_eq k m.0) && not (bytes_eq m.0 k)) && is_fresh k ms

abbrev pub are_distinct : List Member → Bool
are_distinct [] = true
are_distinct (m ∷ ms) = is_fresh m.0 ms && are_distinct ms

not_true : (b : Bool) → not b ≡ true → b ≡ false
not_true true e = absurd cc
not_true false e = refl

record IsFresh (k : List ℕ) (m : Member) (ms : List Member) : Type 0 where
  here : bytes_eq k m.0 ≡ false
  there : bytes_eq m.0 k ≡ false
  rest : is_fresh k ms ≡ true

fresh_parts : (k : List ℕ) (m : Member) (ms : List Member) → is_fresh k (m ∷ ms) ≡ true → IsFresh k m ms
fresh_parts k m ms e =
    let outer = and_parts (not (bytes_eq k m.0) && not (bytes_eq m.0 k)) (is_fresh k ms) e in
    let inner = and_parts (not (bytes_eq k m.0)) (not (bytes_eq m.0 k)) outer.0 in
    record { here = not_true _ inner.0; there = not_true _ inner.1; rest = outer.1 }

passes : (k : List ℕ) (found : Option Data) (ms : List Member) → is_fresh k ms ≡ true → in_rows k found ms ≡ found
passes k found [] e = refl
passes k found (m ∷ ms) e = let parts = fresh_parts k m ms e in rw parts.here (passes k found ms parts.rest)

tail_at : (k : List ℕ) (o : Option Data) (ms vs : List Member) → is_fresh k vs ≡ true
    → AllByRecursion (λ m. in_rows m.0 None ms ≡ m.1) vs → AllByRecursion (λ m. in_rows m.0 None ((k, o) ∷ ms) ≡ m.1) vs
tail_at k o ms [] e all = tt
tail_at k o ms (v ∷ vs) e all = let parts = fresh_parts k v vs e in (rw parts.there all.0, tail_at k o ms vs parts.rest all.1)

first_at : (k : List ℕ) (o : Option Data) (ms : List Member) → is_fresh k ms ≡ true → in_rows k None ((k, o) ∷ ms) ≡ o
first_at k None ms e = let same : bytes_eq k k ≡ true = (bytes_eq-Decides k k).1 refl in rw same (passes k None ms e)
first_at k (Some d) ms e = let same : bytes_eq k k ≡ true = (bytes_eq-Decides k k).1 refl in rw same (passes k (Some d) ms e)

each_at : (ms : List Member) → are_distinct ms ≡ true → AllByRecursion (λ m. in_rows m.0 None ms ≡ m.1) ms
each_at [] e = tt
each_at (m ∷ ms) e =
    let parts = and_parts (is_fresh m.0 ms) (are_distinct ms) e in
    (first_at m.0 m.1 ms parts.0, tail_at m.0 m.1 ms ms parts.0 (each_at ms parts.1))

found_each : (rs ms : List Member) → AllByRecursion (λ m. in_rows m.0 None rs ≡ m.1) ms → FoundAgain (as_texts (row_object rs)) ms
found_each rs [] all = tt
found_each rs (m ∷ ms) all = (member_again m.0 rs m.1 all.0, found_each rs ms all.1)

-- ---- a table and what makes its values

-- its rows have their laws, its values make it again, what is made holds its values, and its names are distinct
pub record TableLaws {S : Type 0} (most : ℕ) (t : Table S) (make : Maker t) : Type 0 where
  pub rows : AllLaws most t
  pub whole : (s : S) → made_of t make s ≡ s
  pub holds : Holds t make (λ s. ⊤)
  pub distinct : (s : S) → are_distinct (all_written t s) ≡ true

pub read_spelled : {S : Type 0} {most : ℕ} {t : Table S} {make : Maker t} → TableLaws most t make → (d : Data) (s : S)
    → read_all t make d ≡ Ok s → AllSpelled t d s
read_spelled {most = most} {t = t} {make = make} laws d s e = (spelled_and most t make laws.rows d s e (λ s. ⊤) laws.holds).0

pub spelled_read : {S : Type 0} {most : ℕ} {t : Table S} {make : Maker t} → TableLaws most t make → (d : Data) (s : S)
    → AllSpelled t d s → read_all t make d ≡ Ok s
spelled_read {most = most} {t = t} {make = make} laws d s is = all_read most t make laws.rows d s is ∙ ap Ok (laws.whole s)

pub is_spelled : {S : Type 0} {most : ℕ} {t : Table S} {make : Maker t} → TableLaws most t make → (d : Data) (s : S)
    → (read_all t make d ≡ Ok s) ↔ AllSpelled t d s
is_spelled laws d s = (read_spelled laws d s, spelled_read laws d s)

pub spelled_proper : {S : Type 0} {most : ℕ} {t : Table S} {make : Maker t} → TableLaws most t make → (d : Data) (s : S)
    → TextsAreUtf8 d → AllSpelled t d s → AllProper t s
spelled_proper {most = most} {t = t} laws d s u is = all_proper most t laws.rows d s u is

pub written_read : {S : Type 0} {most : ℕ} {t : Table S} {make : Maker t} → TableLaws most t make → (s : S)
    → AllProper t s → read_all t make (as_texts (row_object (all_written t s))) ≡ Ok s
written_read {most = most} {t = t} laws s is =
    let rs = all_written t s in
    spelled_read laws _ s (all_back most t laws.rows (as_texts (row_object rs)) s is (found_each rs rs (each_at rs (laws.distinct s))))

pub read_proper : {S : Type 0} {most : ℕ} {t : Table S} {make : Maker t} → TableLaws most t make → (d : Data) (s : S)
    → TextsAreUtf8 d → read_all t make d ≡ Ok s → AllProper t s
read_proper laws d s u e = spelled_proper laws d s u (read_spelled laws d s e)

pub table_within : {S : Type 0} {most : ℕ} {t : Table S} {make : Maker t} → TableLaws most t make → (s : S)
    → AllProper t s → IsCanonicalWithin (suc most) (row_object (all_written t s))
table_within {most = most} {t = t} laws s is = object_within most (all_written t s) (all_within most t laws.rows s is)

-- ---- a table inside another

pub together_laws : {S T : Type 0} {most : ℕ} {t : Table T} {make : Maker t} {of : S → T} → TableLaws most t make
    → RowLaws most (together t (read_all t make) of)
together_laws {most = most} {t = t} laws = record {
  spelled = λ d x. read_spelled laws d x;
  reads = λ d x. spelled_read laws d x;
  back = λ d x is there. all_back most t laws.rows d x is there;
  within = λ x is. all_within most t laws.rows x is;
  proper = λ d x u is. spelled_proper laws d x u is;
}

-- ---- objects of a table as values

pub table_kind : {S : Type 0} {most : ℕ} {t : Table S} {make : Maker t} → TableLaws most t make
    → KindLaws (suc most) (record {
      rule = table (read_all t make);
      writing = λ s. Some (row_object (all_written t s));
      Is = AllProper t;
    })
table_kind {t = t} {make = make} laws = record {
  back = λ s is. table_back (read_all t make) (with_rows no_members (all_written t s)) s (written_read laws s is);
  within = λ s is. table_within laws s is;
  yields = table_yields (read_all t make) (AllProper t) (λ d u. reads_to (AllProper t) (read_all t make d) (λ s e. read_proper laws d s u e));
}

pub table_entries : {S : Type 0} {most : ℕ} {t : Table S} {make : Maker t} → TableLaws most t make
    → EntryLaws (suc most) (record {
      rule = table (read_all t make);
      writing = λ s. Some (row_object (all_written t s));
      Is = AllProper t;
    })
table_entries {t = t} {make = make} laws = record {
  entry = λ s is. table_entry (read_all t make) (λ s. Some (row_object (all_written t s)))
      (with_rows no_members (all_written t s)) s refl (written_read laws s is);
  within = λ s is. table_within laws s is;
  yields = (table_kind laws).yields;
}

-- one that need not be there: then it isn't blank
abbrev IsShown : {S : Type 0} → Table S → (S → Bool) → S → Type 0
IsShown t blank s = AllProper t s × (blank s ≡ false)

shown_yields : {S : Type 0} {most : ℕ} {t : Table S} {make : Maker t} → TableLaws most t make → (blank : S → Bool)
    → Yields (table_unless_blank blank (read_all t make)) (IsShown t blank)
shown_yields {t = t} {make = make} laws blank = table_unless_blank_yields blank (read_all t make) (AllProper t)
    (λ d u. reads_to (AllProper t) (read_all t make d) (λ s e. read_proper laws d s u e))

pub shown_table_kind : {S : Type 0} {most : ℕ} {t : Table S} {make : Maker t} → TableLaws most t make → (blank : S → Bool)
    → KindLaws (suc most) (record {
      rule = table_unless_blank blank (read_all t make);
      writing = λ s. Some (row_object (all_written t s));
      Is = IsShown t blank;
    })
shown_table_kind {t = t} {make = make} laws blank = record {
  back = λ s is. table_unless_blank_back blank (read_all t make) (with_rows no_members (all_written t s)) s (written_read laws s is.0) is.1;
  within = λ s is. table_within laws s is.0;
  yields = shown_yields laws blank;
}

-- and it isn't written where it would be empty
pub left_out_table_kind : {S : Type 0} {most : ℕ} {t : Table S} {make : Maker t} → TableLaws most t make
    → (blank : S → Bool) (empty : S) → read_all t make (object no_members) ≡ Ok empty → blank empty ≡ true
    → KindLaws (suc most) (record {
      rule = table_unless_blank blank (read_all t make);
      writing = λ s. object_unless_empty (with_rows no_members (all_written t s));
      Is = IsShown t blank;
    })
left_out_table_kind {most = most} {t = t} {make = make} laws blank empty none is_blank = record {
  back = λ s is. object_unless_empty_back blank (read_all t make)
      (with_rows no_members (all_written t s)) s empty none is_blank (written_read laws s is.0) is.1;
  within = λ s is. object_unless_empty_within (suc most) _ (table_within laws s is.0);
  yields = shown_yields laws blank;
}
