-- What was written is spelled again: objects that are left out where they would be empty, and lists.
use Rattle.std.proofs.Common.{◌≡◌, ℕ, ◌+◌, ◌≤◌, ◌⊎◌, inl, inr, Bool, true, false, cond, not, nat_le, List, [], ◌∷◌, length, bytes_eq}
use Rattle.std.proofs.Common.{Option, Some, None, Result, Ok, refl, sym, ap, ◌∙◌, arith}
use Rattle.std.specs.Prelude.{count_by}
use Rattle.std.specs.List.{filter_map, AllByRecursion}
use Rattle.std.proofs.lemmas.Bool.{le-leb}
use Rattle.std.proofs.lemmas.List.Sums.{sum_by-cons}
use Rattle.std.proofs.lemmas.Slice.Eq.{bytes_eq-Decides}
use Rattle.serde_json.specs.Data.{Data, object, array, Members, no_members, member as one_member}
use Rattle.serde_json.specs.View.{items_of}
use Rattle.siri_json.specs.Canonical.{as_texts, items_as_texts}
use Rattle.siri_json.specs.Values.{object_in, member_of, items_list, entries_of}
use Rattle.siri_tables.specs.Refusals.{Refusal}
use Rattle.siri_tables.specs.Rules.{name, inside, table, table_unless_blank, required_value, is_null, entry_count, entries_from, found_from}
use Rattle.siri_tables.specs.Rules.{at_most, list_of, names_of, or_empty, list, not_empty, nonempty_list, names, list_inside}
use Rattle.siri_tables.specs.Writing.{Row, with_rows, row_object, object_unless_empty, array_unless_empty, written_list, written_text, written_name}
use Rattle.siri_tables.specs.Proper.{IsName}
use Rattle.siri_tables.proofs.Back.{found_again, GivesBack, in_rows, member_again, row_again}
use Rattle.siri_tables.proofs.BackValues.{name_back, table_back, table_unless_blank_back}
use Rattle.siri_tables.proofs.RowSpells.{ok_is, row_ok}

-- ---- objects that may be left out

-- what is read of an empty object is all that is read of it
pub same_as_empty : {A : Type 0} (r : Result A Refusal) (x empty : A) → r ≡ Ok empty → r ≡ Ok x → empty ≡ x
same_as_empty r x empty at_empty is = ok_is empty x (sym at_empty ∙ is)

never : {A : Type 0} (blank : A → Bool) (x empty : A) → empty ≡ x → blank empty ≡ true → blank x ≡ false → ⊥
never blank x empty same is_blank shown = cc (ap blank same, is_blank, shown)

-- an object that isn't blank is written, and given back
pub object_unless_empty_back : {A : Type 0} (blank : A → Bool) (rows : Data → Result A Refusal) (ms : Members) (x empty : A)
    → rows (object no_members) ≡ Ok empty → blank empty ≡ true → rows (as_texts (object ms)) ≡ Ok x → blank x ≡ false
    → GivesBack (table_unless_blank blank rows) (object_unless_empty ms) (Some x)
object_unless_empty_back blank rows no_members x empty at_empty is_blank is shown =
    absurd (never blank x empty (same_as_empty (rows (object no_members)) x empty at_empty is) is_blank shown)
object_unless_empty_back blank rows (one_member k d ms) x empty at_empty is_blank is shown = table_unless_blank_back blank rows (one_member k d ms) x is shown

-- an object is given back, or isn't written, and would be read as the empty one
pub object_back_or_empty : {A : Type 0} (rows : Data → Result A Refusal) (ms : Members) (x empty : A)
    → rows (object no_members) ≡ Ok empty → rows (as_texts (object ms)) ≡ Ok x
    → GivesBack (table rows) (object_unless_empty ms) (Some x) ⊎ (GivesBack (table rows) (object_unless_empty ms) None × (empty ≡ x))
object_back_or_empty rows no_members x empty at_empty is = inr (refl, same_as_empty (rows (object no_members)) x empty at_empty is)
object_back_or_empty rows (one_member k d ms) x empty at_empty is = inl (table_back rows (one_member k d ms) x is)

-- ---- entries

-- what was written for an entry is read as the entry
pub record EntryBack {A : Type 0} (rule : Data → Result (Option A) Refusal) (writing : A → Option Data) (x : A) : Type 0 where
  pub written : Data
  pub is : writing x ≡ Some written
  pub not_null : is_null (as_texts written) ≡ false
  pub again : rule (as_texts written) ≡ Ok (Some x)

-- an entry that is an object of a table
pub table_entry : {A : Type 0} (rows : Data → Result A Refusal) (writing : A → Option Data) (ms : Members) (x : A)
    → writing x ≡ Some (object ms) → rows (as_texts (object ms)) ≡ Ok x → EntryBack (table rows) writing x
table_entry rows writing ms x written is = record { written = object ms; is = written; not_null = refl; again = table_back rows ms x is }

abbrev pub read_again : {A : Type 0} → (A → Option Data) → List A → List Data
read_again writing xs = items_list (items_as_texts (items_of (filter_map writing xs)))

entries_back : {A : Type 0} (rule : Data → Result (Option A) Refusal) (writing : A → Option Data) (place : ℕ) (xs : List A)
    → AllByRecursion (EntryBack rule writing) xs → entries_from rule place (read_again writing xs) ≡ Ok xs
unfolding entries_from required_value
entries_back rule writing place [] all = refl
entries_back rule writing place (x ∷ xs) all = rw (all.0.is, all.0.not_null, all.0.again, entries_back rule writing (place + 1) xs all.1) refl

found_back : {A : Type 0} (rule : Data → Result (Option A) Refusal) (writing : A → Option Data) (place : ℕ) (xs : List A)
    → AllByRecursion (EntryBack rule writing) xs → found_from rule place (read_again writing xs) ≡ Ok xs
unfolding found_from
found_back rule writing place [] all = refl
found_back rule writing place (x ∷ xs) all = rw (all.0.is, all.0.not_null, all.0.again, found_back rule writing (place + 1) xs all.1) refl

count_back : {A : Type 0} (rule : Data → Result (Option A) Refusal) (writing : A → Option Data) (xs : List A)
    → AllByRecursion (EntryBack rule writing) xs → count_by (λ e. not (is_null e)) (read_again writing xs) ≡ length xs
count_back rule writing [] all = refl
count_back rule writing (x ∷ xs) all =
    rw (all.0.is) (sum_by-cons (λ e. cond (not (is_null e)) 1 0) (as_texts all.0.written) (read_again writing xs)
    ∙ rw (all.0.not_null, count_back rule writing xs all.1) (omega arith))

-- ---- lists

-- what a reader finds of a list that was written
abbrev pub list_again : List Data → Data
list_again ds = as_texts (array (items_of ds))

pub entry_count_back : {A : Type 0} (rule : Data → Result (Option A) Refusal) (writing : A → Option Data) (xs : List A)
    → AllByRecursion (EntryBack rule writing) xs → entry_count (list_again (filter_map writing xs)) ≡ length xs
unfolding entries_of
entry_count_back rule writing xs all = count_back rule writing xs all

pub list_of_back : {A : Type 0} (rule : Data → Result (Option A) Refusal) (writing : A → Option Data) (xs : List A)
    → AllByRecursion (EntryBack rule writing) xs → list_of rule (list_again (filter_map writing xs)) ≡ Ok xs
unfolding list_of entries_of
list_of_back rule writing xs all = entries_back rule writing 0 xs all

pub names_of_back : (inner : List ℕ) (writing : List ℕ → Option Data) (xs : List (List ℕ))
    → AllByRecursion (EntryBack (inside name inner) writing) xs → names_of inner (list_again (filter_map writing xs)) ≡ Ok xs
unfolding names_of entries_of
names_of_back inner writing xs all = found_back (inside name inner) writing 0 xs all

bounded_back : {A : Type 0} (read : Data → Result (List A) Refusal) (most : ℕ) (ds : List Data) (xs : List A)
    → read (list_again []) ≡ Ok [] → entry_count (list_again ds) ≤ most → read (list_again ds) ≡ Ok xs
    → or_empty (at_most most read) (found_again (array_unless_empty ds)) ≡ Ok xs
bounded_back read most [] xs none le is = sym none ∙ is
bounded_back read most (d ∷ ds) xs none le is =
    let few : nat_le (entry_count (list_again (d ∷ ds))) most ≡ true = le-leb _ _ le in
    rw (few, is) refl

list_of_none : {A : Type 0} (rule : Data → Result (Option A) Refusal) → list_of rule (list_again []) ≡ Ok []
unfolding list_of entries_of entries_from
list_of_none rule = refl

pub names_of_none : (inner : List ℕ) → names_of inner (list_again []) ≡ Ok []
unfolding names_of entries_of found_from
names_of_none inner = refl

-- a list that was written at a name
pub list_back : {A : Type 0} (rule : Data → Result (Option A) Refusal) (writing : A → Option Data) (most : ℕ) (key : List ℕ) (d : Data) (xs : List A)
    → AllByRecursion (EntryBack rule writing) xs → length xs ≤ most → member_of key d ≡ found_again (written_list writing xs) → list rule most key d ≡ Ok xs
unfolding list written_list
list_back rule writing most key d xs all le at_key =
    let few : entry_count (list_again (filter_map writing xs)) ≤ most = omega (arith, entry_count_back rule writing xs all) in
    rw (at_key, bounded_back (list_of rule) most (filter_map writing xs) xs (list_of_none rule) few (list_of_back rule writing xs all)) refl

some_entry : {A : Type 0} (key : List ℕ) (xs : List A) → 1 ≤ length xs → not_empty key xs ≡ Ok xs
some_entry key [] some = absurd (omega arith)
some_entry key (x ∷ xs) some = refl

-- the same, where there has to be an entry
pub nonempty_list_back : {A : Type 0} (rule : Data → Result (Option A) Refusal) (writing : A → Option Data) (most : ℕ) (key : List ℕ) (d : Data) (xs : List A)
    → AllByRecursion (EntryBack rule writing) xs → 1 ≤ length xs → length xs ≤ most
    → member_of key d ≡ found_again (written_list writing xs) → nonempty_list rule most key d ≡ Ok xs
unfolding nonempty_list
nonempty_list_back rule writing most key d xs all some le at_key = rw (list_back rule writing most key d xs all le at_key) (some_entry key xs some)

-- the same, of the names that its entries have
pub names_back : (inner : List ℕ) (writing : List ℕ → Option Data) (most : ℕ) (key : List ℕ) (d : Data) (xs : List (List ℕ))
    → AllByRecursion (EntryBack (inside name inner) writing) xs → length xs ≤ most
    → member_of key d ≡ found_again (written_list writing xs) → names inner most key d ≡ Ok xs
unfolding names written_list
names_back inner writing most key d xs all le at_key =
    let few : entry_count (list_again (filter_map writing xs)) ≤ most = omega (arith, entry_count_back (inside name inner) writing xs all) in
    rw (at_key, bounded_back (names_of inner) most (filter_map writing xs) xs (names_of_none inner) few (names_of_back inner writing xs all)) refl

-- ---- lists inside an object of their own

same_bytes : (key : List ℕ) → bytes_eq key key ≡ true
same_bytes key = (bytes_eq-Decides key key).1 refl

-- the only row of an object
pub only_row : (key : List ℕ) (written : Option Data) → in_rows key None ((key, written) ∷ []) ≡ written
only_row key None = rw (same_bytes key) refl
only_row key (Some d) = rw (same_bytes key) refl

pub only_member : (key : List ℕ) (written : Option Data) → member_of key (as_texts (row_object ((key, written) ∷ []))) ≡ found_again written
only_member key written = member_again key ((key, written) ∷ []) written (only_row key written)

-- what is read inside an object that may have been left out
pub inside_back : {A : Type 0} (outer : List ℕ) (read : Data → Result (List A) Refusal) (d : Data) (ms : Members) (xs : List A)
    → read (object no_members) ≡ Ok [] → read (as_texts (object ms)) ≡ Ok xs
    → member_of outer d ≡ found_again (object_unless_empty ms) → list_inside outer read d ≡ Ok xs
unfolding list_inside object_in
inside_back outer read d no_members xs at_empty is at_outer =
    let same : [] ≡ xs = same_as_empty (read (object no_members)) xs [] at_empty is in
    rw (at_outer, ← same) refl
inside_back outer read d (one_member k e ms) xs at_empty is at_outer = rw (at_outer, is) refl

list_at_none : {A : Type 0} (rule : Data → Result (Option A) Refusal) (most : ℕ) (key : List ℕ) → list rule most key (object no_members) ≡ Ok []
unfolding list member_of
list_at_none rule most key = refl

names_at_none : (inner : List ℕ) (most : ℕ) (key : List ℕ) → names inner most key (object no_members) ≡ Ok []
unfolding names member_of
names_at_none inner most key = refl

-- the members of an object with a list alone
abbrev pub list_members : {A : Type 0} → List ℕ → (A → Option Data) → List A → Members
list_members key writing xs = with_rows no_members ((key, written_list writing xs) ∷ [])

pub list_inside_back : {A : Type 0} (rule : Data → Result (Option A) Refusal) (writing : A → Option Data) (most : ℕ)
    (outer key : List ℕ) (d : Data) (xs : List A)
    → AllByRecursion (EntryBack rule writing) xs → length xs ≤ most → member_of outer d ≡ found_again (object_unless_empty (list_members key writing xs))
    → list_inside outer (list rule most key) d ≡ Ok xs
list_inside_back rule writing most outer key d xs all le at_outer =
    let is = list_back rule writing most key (as_texts (object (list_members key writing xs))) xs all le (only_member key (written_list writing xs)) in
    inside_back outer (list rule most key) d (list_members key writing xs) xs (list_at_none rule most key) is at_outer

pub names_inside_back : (inner : List ℕ) (writing : List ℕ → Option Data) (most : ℕ) (outer key : List ℕ) (d : Data) (xs : List (List ℕ))
    → AllByRecursion (EntryBack (inside name inner) writing) xs → length xs ≤ most
    → member_of outer d ≡ found_again (object_unless_empty (list_members key writing xs))
    → list_inside outer (names inner most key) d ≡ Ok xs
names_inside_back inner writing most outer key d xs all le at_outer =
    let is = names_back inner writing most key (as_texts (object (list_members key writing xs))) xs all le (only_member key (written_list writing xs)) in
    inside_back outer (names inner most key) d (list_members key writing xs) xs (names_at_none inner most key) is at_outer

-- ---- names in objects of their own

pub name_entry : (inner t : List ℕ) → IsName t → EntryBack (inside name inner) (written_name inner) t
unfolding written_name inside object_in
name_entry inner t is =
    let rs : List Row = (inner, written_text t) ∷ [] in
    let again = row_ok name inner (as_texts (row_object rs)) (Some t)
    (row_again name inner rs (written_text t) (Some t) (only_row inner (written_text t)) (name_back t is)) in
    record { written = row_object rs; is = refl; not_null = refl; again = again }

pub name_entries : (inner : List ℕ) (ts : List (List ℕ)) → AllByRecursion IsName ts → AllByRecursion (EntryBack (inside name inner) (written_name inner)) ts
name_entries inner [] all = tt
name_entries inner (t ∷ ts) all = (name_entry inner t all.0, name_entries inner ts all.1)
