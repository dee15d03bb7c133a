-- What was written is spelled again: the members of an object that rows wrote.
use Rattle.std.proofs.Common.{◌≡◌, ℕ, Bool, true, false, cond, List, [], ◌∷◌, Option, Some, None, option_map, Result, Ok, Ordering, Less}
use Rattle.std.proofs.Common.{Equal, Greater, nat_cmp, bytes_eq, refl, ap, ◌∙◌, subst}
use Rattle.std.specs.Cmp.Lexicographic.{slice_cmp}
use Rattle.std.specs.Ordering.{match_ordering}
use Rattle.std.proofs.lemmas.Slice.Eq.{bytes_eq-Decides}
use Rattle.serde_json.specs.Data.{Data, Members, no_members, member as one_member, put}
use Rattle.serde_json.specs.Find.{get_member}
use Rattle.serde_json.proofs.Views.{get_member-put, get_member-put_other}
use Rattle.siri_json.specs.Canonical.{as_texts, members_as_texts}
use Rattle.siri_json.specs.Values.{unless_null, member_of}
use Rattle.siri_tables.specs.Refusals.{Refusal}
use Rattle.siri_tables.specs.Rules.{maybe}
use Rattle.siri_tables.specs.Spelling.{Spells}
use Rattle.siri_tables.specs.Writing.{Row, put_row, with_rows, row_object}

-- what a reader finds of what was written: its numbers are texts
abbrev pub found_again : Option Data → Option Data
found_again written = unless_null (option_map as_texts written)

-- a rule gives back what was written
abbrev pub GivesBack : {A : Type 0} → (Data → Result (Option A) Refusal) → Option Data → Option A → Type 0
GivesBack rule written value = maybe rule (found_again written) ≡ Ok value

choice-as_texts : (o : Ordering) (a : Option Data) (e : Data)
    → match_ordering o (option_map as_texts a) (Some (as_texts e)) (option_map as_texts a) ≡ option_map as_texts
    (match_ordering o a (Some e) a)
choice-as_texts Less a e = refl
choice-as_texts Equal a e = refl
choice-as_texts Greater a e = refl

pub get_member-as_texts : (k : List ℕ) (ms : Members) → get_member k (members_as_texts ms) ≡ option_map as_texts (get_member k ms)
get_member-as_texts k no_members = refl
get_member-as_texts k (one_member l e ms) = rw (get_member-as_texts k ms) (choice-as_texts (slice_cmp nat_cmp k l) (get_member k ms) e)

-- the row of that name, where the members had found before
abbrev pub or_else : Option Data → Option Data → Option Data
or_else None row = row
or_else (Some d) None = Some d
or_else (Some d) (Some e) = Some e

-- the last row of that name that is written: for a table of constants it is found by computing
abbrev pub in_rows : List ℕ → Option Data → List Row → Option Data
in_rows k found [] = found
in_rows k found (r ∷ rs) = in_rows k (cond (bytes_eq k r.0) (or_else found r.1) found) rs

chosen : (found : Option Data) (d : Data) → Some d ≡ or_else found (Some d)
chosen None d = refl
chosen (Some e) d = refl

found_put : (k l : List ℕ) (d : Data) (ms : Members) (b : Bool) → bytes_eq k l ≡ b
    → get_member k (put l d ms) ≡ cond b (or_else (get_member k ms) (Some d)) (get_member k ms)
found_put k l d ms true e =
    let same : k ≡ l = (bytes_eq-Decides k l).0 e in
    let required : get_member k (put k d ms) ≡ Some d = get_member-put k d ms in
    subst (λ (x : List ℕ). get_member k (put x d ms) ≡ or_else (get_member k ms) (Some d)) same (required ∙ chosen (get_member k ms) d)
found_put k l d ms false e = get_member-put_other k l d ms (λ same. absurd (cc ((bytes_eq-Decides k l).1 same, e)))

put_none : (b : Bool) (found : Option Data) → found ≡ cond b (or_else found None) found
put_none true None = refl
put_none true (Some d) = refl
put_none false found = refl

found_put_row : (k l : List ℕ) (o : Option Data) (ms : Members)
    → get_member k (put_row l o ms) ≡ cond (bytes_eq k l) (or_else (get_member k ms) o) (get_member k ms)
found_put_row k l None ms = put_none (bytes_eq k l) (get_member k ms)
found_put_row k l (Some d) ms = found_put k l d ms (bytes_eq k l) refl

pub found_with_rows : (k : List ℕ) (ms : Members) (rs : List Row) → get_member k (with_rows ms rs) ≡ in_rows k (get_member k ms) rs
found_with_rows k ms [] = refl
found_with_rows k ms (r ∷ rs) = found_with_rows k (put_row r.0 r.1 ms) rs ∙ ap (λ (found : Option Data). in_rows k found rs) (found_put_row k r.0 r.1 ms)

-- the member of a name in an object that rows wrote
pub member_again : (key : List ℕ) (rs : List Row) (written : Option Data) → in_rows key None rs ≡ written
    → member_of key (as_texts (row_object rs)) ≡ found_again written
unfolding member_of
member_again key rs written at_key = rw (get_member-as_texts key (with_rows no_members rs), found_with_rows key no_members rs, at_key) refl

-- a row that was written is spelled again, where its value is given back
pub row_again : {A : Type 0} (rule : Data → Result (Option A) Refusal) (key : List ℕ) (rs : List Row) (written : Option Data) (value : Option A)
    → in_rows key None rs ≡ written → GivesBack rule written value → Spells rule key (as_texts (row_object rs)) value
row_again rule key rs written value at_key again = rw (member_again key rs written at_key) again
