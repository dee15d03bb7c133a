-- What follows of rows that say something: none of them is bad.
use Rattle.std.proofs.Common.{◌≡◌, ◌<◌, ℕ, List, [], ◌∷◌, length, map, Bool, true, false, cond, not, Option, None, Some, Result, Ok, Err, ◌⊎◌, inl, inr, refl, ap, subst, arith}
use Rattle.std.specs.Prelude.{find, option_map, is_none, IsSome, ok_or, if◌then◌else◌, ◌==◌}
use Rattle.std.specs.List.{AllByRecursion as All, Contains, filter}
use Rattle.std.specs.Option.{option_and_then}
use Rattle.std.specs.Ordering.{is_eq}
use Rattle.std.proofs.lemmas.Bool.{eqb-true, or_parts}
use Rattle.std.proofs.lemmas.Bool.Decides.{nat_tests}
use Rattle.std.proofs.lemmas.List.Elements.{All-contains}
use Rattle.std.proofs.lemmas.Option.{same_Some}
use Rattle.siri_outside.specs.declared.rows.StoredRow.{StoredRow}
use Rattle.siri_outside.specs.Rows.{RowPlace, Rows, of_table, place_cmp, place_of, text_at}
use Rattle.siri_row_texts.specs.declared.moments.Began.{Began}
use Rattle.siri_row_texts.specs.Reading.{began_of_row, request_of_row}
use Rattle.siri_keeping.specs.Opening.{SaysKept, Nothing, Said, WhatIsKept, began_in, is_bad, is_bad_beginning, is_bad_item, is_bad_request, kept_in, renewal_in, renewal_of_request, said, said_unless}
use Rattle.siri_keeping.proofs.Found.{place_exact, tied_is}
use Rattle.siri_keeping.proofs.Written.{first_or, here, later}
use Rattle.siri_keep.proofs.Alls.{each_of_all}

-- ---- lists

none_at : {X : Type 0} (p : X → Bool) (x : X) (xs : List X) (b : Bool) → p x ≡ b → (find p xs ≡ None → All (λ y. p y ≡ false) xs)
    → cond b (Some x) (find p xs) ≡ None → All (λ y. p y ≡ false) (x ∷ xs)
none_at p x xs true is rest none = absurd (cc none)
none_at p x xs false is rest none = (is, rest none)

-- where none is found that passes a test, none does
none_found : {X : Type 0} (p : X → Bool) (xs : List X) → find p xs ≡ None → All (λ x. p x ≡ false) xs
none_found p [] none = tt
none_found p (x ∷ xs) none = none_at p x xs (p x) refl (none_found p xs) none

passing_at : {X : Type 0} (Q : X → Type 0) (p : X → Bool) (x : X) (xs : List X) (b : Bool) → p x ≡ b → (p x ≡ true → Q x)
    → All Q (filter p xs) → All Q (cond b (x ∷ filter p xs) (filter p xs))
passing_at Q p x xs true is one rest = (one is, rest)
passing_at Q p x xs false is one rest = rest

-- what those that pass a test have
pub all_passing : {X : Type 0} (P Q : X → Type 0) (p : X → Bool) → ((x : X) → p x ≡ true → P x → Q x) → (xs : List X) → All P xs
    → All Q (filter p xs)
all_passing P Q p gives [] all = tt
all_passing P Q p gives (x ∷ xs) all =
    passing_at Q p x xs (p x) refl (λ passes. gives x passes all.0) (all_passing P Q p gives xs all.1)

among_at : {X : Type 0} (p : X → Bool) (x y : X) (xs : List X) (b : Bool) → p x ≡ b → (x ≡ y) ⊎ Contains xs y → p y ≡ true
    → (Contains xs y → Contains (filter p xs) y) → Contains (cond b (x ∷ filter p xs) (filter p xs)) y
among_at p x y xs true is (inl same) passes rest = subst (Contains (x ∷ filter p xs)) same (here x (filter p xs))
among_at p x y xs true is (inr more) passes rest = later x y (filter p xs) (rest more)
among_at p x y xs false is (inl same) passes rest = absurd (cc (is, ap p same, passes))
among_at p x y xs false is (inr more) passes rest = rest more

-- one that passes a test is among those that do
pub among_passing : {X : Type 0} (p : X → Bool) (xs : List X) (y : X) → Contains xs y → p y ≡ true → Contains (filter p xs) y
among_passing p [] y there passes = there
among_passing p (x ∷ xs) y there passes =
    among_at p x y xs (p x) refl (first_or x y xs there) passes (λ more. among_passing p xs y more passes)

pub among_mapped : {X Y : Type 0} (f : X → Y) (xs : List X) (y : X) → Contains xs y → Contains (map f xs) (f y)
among_mapped f [] y there = absurd (omega (arith, there.1))
among_mapped f (x ∷ xs) y there = elim (first_or x y xs there) [
  | inl same ↦ subst (λ z. Contains (map f (x ∷ xs)) (f z)) same (here (f x) (map f xs))
  | inr more ↦ later (f x) (f y) (map f xs) (among_mapped f xs y more)
]

-- ---- what is said

abbrev missing : RowPlace
missing = (0, [])

pub record Says (rows : Rows) (what : WhatIsKept) : Type 0 where
  pub began : began_in rows ≡ Some what.began
  pub is : kept_in rows what.began ≡ what
  pub good : All (λ row. is_bad rows row ≡ false) rows

abbrev says_or : WhatIsKept → Result Said RowPlace → WhatIsKept
says_or otherwise (Ok (SaysKept what)) = what
says_or otherwise (Ok Nothing) = otherwise
says_or otherwise (Err bad) = otherwise

says_of : (rows : Rows) (what : WhatIsKept) (b : Option Began) → began_in rows ≡ b → find (is_bad rows) rows ≡ None
    → ok_or (option_map (λ began. SaysKept (kept_in rows began)) b) missing ≡ Ok (SaysKept what) → Says rows what
says_of rows what None at none e = absurd (cc e)
says_of rows what (Some began) at none e =
    let same : kept_in rows began ≡ what = ap (says_or what) e in
    subst (Says rows) same (record { began = at; is = refl; good = none_found (is_bad rows) rows none })

says_by : (rows : Rows) (what : WhatIsKept) (bad : Option StoredRow) → find (is_bad rows) rows ≡ bad
    → said_unless bad rows ≡ Ok (SaysKept what) → Says rows what
says_by rows what (Some bad) found e = absurd (cc e)
says_by rows what None found e = says_of rows what (began_in rows) refl found e

said_at : (rows : Rows) (what : WhatIsKept) (is_missing : Bool)
    → (if is_missing then Err missing else said_unless (find (is_bad rows) rows) rows) ≡ Ok (SaysKept what) → Says rows what
said_at rows what true e = absurd (cc e)
said_at rows what false e = says_by rows what (find (is_bad rows) rows) refl e

pub says : (rows : Rows) (what : WhatIsKept) → said rows ≡ Ok (SaysKept what) → Says rows what
unfolding said
says [] what e = absurd (cc e)
says (row ∷ rest) what e = said_at (row ∷ rest) what (is_none (text_at (row ∷ rest) 0 [])) e

something_of : (rows : Rows) (b : Option Began)
    → ok_or (option_map (λ began. SaysKept (kept_in rows began)) b) missing ≡ Ok Nothing → ⊥
something_of rows None e = cc e
something_of rows (Some began) e = cc e

something_by : (rows : Rows) (bad : Option StoredRow) → said_unless bad rows ≡ Ok Nothing → ⊥
something_by rows (Some bad) e = cc e
something_by rows None e = something_of rows (began_in rows) e

something_at : (rows : Rows) (is_missing : Bool)
    → (if is_missing then Err missing else said_unless (find (is_bad rows) rows) rows) ≡ Ok Nothing → ⊥
something_at rows true e = cc e
something_at rows false e = something_by rows (find (is_bad rows) rows) e

-- nothing is said by no rows alone
pub none_say : (rows : Rows) → said rows ≡ Ok Nothing → rows ≡ []
unfolding said
none_say [] e = refl
none_say (row ∷ rest) e = absurd (something_at (row ∷ rest) (is_none (text_at (row ∷ rest) 0 [])) e)

-- ---- the row at a place

abbrev pub stored : ℕ → (key text : List ℕ) → StoredRow
stored table key text = record { table = table; key = key; text = text }

abbrev is_at : ℕ → List ℕ → StoredRow → Bool
is_at table key row = is_eq (place_cmp (place_of row) (table, key))

row_at : (table : ℕ) (key text : List ℕ) (row : StoredRow) (rest : Rows) (b : Bool) → is_at table key row ≡ b
    → (text_at rest table key ≡ Some text → Contains rest (stored table key text))
    → option_map (λ (r : StoredRow). r.text) (cond b (Some row) (find (is_at table key) rest)) ≡ Some text
    → Contains (row ∷ rest) (stored table key text)
row_at table key text row rest true is more e =
    let place : place_of row ≡ (table, key) = place_exact (place_of row) (table, key) (tied_is (place_cmp (place_of row) (table, key)) is) in
    let words : row.text ≡ text = same_Some row.text text e in
    let same : row ≡ stored table key text = λ i. record { table = (place i).0; key = (place i).1; text = words i } in
    subst (Contains (row ∷ rest)) same (here row rest)
row_at table key text row rest false is more e = later row (stored table key text) rest (more e)

-- a text that is found is one of a row
row_found : (table : ℕ) (key text : List ℕ) (rows : Rows) → text_at rows table key ≡ Some text → Contains rows (stored table key text)
row_found table key text [] e = absurd (cc e)
row_found table key text (row ∷ rest) e = row_at table key text row rest (is_at table key row) refl (row_found table key text rest) e

pub some_text : (o : Option (List ℕ)) → IsSome o → (text : List ℕ) × (o ≡ Some text)
some_text None some = absurd (cc some)
some_text (Some text) some = (text, refl)

-- its key is among those of its table
key_listed : (table : ℕ) (key : List ℕ) (rows : Rows) → (table == table) ≡ true → IsSome (text_at rows table key)
    → Contains (map (λ (row : StoredRow). row.key) (of_table table rows)) key
key_listed table key rows itself some =
    let there = some_text (text_at rows table key) some in
    let row = stored table key there.0 in
    among_mapped (λ (r : StoredRow). r.key) (of_table table rows) row
    (among_passing (λ (r : StoredRow). r.table == table) rows row (row_found table key there.0 rows there.1) itself)

-- ---- of each table

-- whether a row is bad, by a table
abbrev pub bad_at : ℕ → Rows → StoredRow → Bool
bad_at table rows row =
    if table == 0 then is_bad_beginning row
    else if table == 1 then is_bad_item rows row
    else if table == 2 then is_bad_request rows row
    else if table == 3 then is_none (renewal_in rows row)
    else true

pub unnegated : (b : Bool) → not b ≡ false → b ≡ true
unnegated true e = refl
unnegated false e = absurd (cc e)

none_long : (key : List ℕ) → length key ≡ 0 → key ≡ []
none_long [] e = refl
none_long (byte ∷ key) e = absurd (omega (arith, e))

-- a row of table 3 names one of table 2
names_one : {A B C : Type 0} (f : B → Option C) (g : A → Option B) (o : Option A) → is_none (option_and_then f (option_and_then g o)) ≡ false
    → IsSome o
names_one f g None e = absurd (cc e)
names_one f g (Some x) e = refl

fifth : {X : Type 0} (a b c d : Bool) (v w x y z : X) → a ≡ false → b ≡ false → c ≡ false → d ≡ false
    → (if a then v else if b then w else if c then x else if d then y else z) ≡ z
fifth a b c d v w x y z is_a is_b is_c is_d = rw (is_a, is_b, is_c, is_d) refl

module _ (rows : Rows) (what : WhatIsKept) (s : Says rows what) where
  -- each of a table is good
  pub good_of : (table : ℕ) → All (λ row. (row.table ≡ table) × (bad_at table rows row ≡ false)) (of_table table rows)
  good_of table = all_passing (λ row. is_bad rows row ≡ false) (λ row. (row.table ≡ table) × (bad_at table rows row ≡ false))
      (λ row. row.table == table)
      (λ row is good.
      let same = eqb-true row.table table is in
      (same, subst (λ t. bad_at t rows row ≡ false) same good)) rows s.good

  -- and so is one that is found
  pub good_at : (table : ℕ) (key text : List ℕ) → text_at rows table key ≡ Some text
      → bad_at table rows (stored table key text) ≡ false
  good_at table key text there =
      let P : StoredRow → Type 0 = λ row. is_bad rows row ≡ false in
      All-contains P rows (stored table key text) (each_of_all P rows s.good) (row_found table key text rows there)

  pub one_moment : (key : List ℕ) → IsSome (text_at rows 0 key) → key ≡ []
  one_moment key some =
      let there = some_text (text_at rows 0 key) some in
      let both = or_parts (not (length key == 0)) (is_none (began_of_row there.0)) (good_at 0 key there.0 there.1) in
      none_long key (eqb-true (length key) 0 (unnegated (length key == 0) both.0))

  pub listed_requests : (key : List ℕ) → IsSome (text_at rows 2 key) → Contains (map (λ (row : StoredRow). row.key) (of_table 2 rows)) key
  listed_requests key some = key_listed 2 key rows refl some

  pub listed_renewals : (key : List ℕ) → IsSome (text_at rows 3 key) → Contains (map (λ (row : StoredRow). row.key) (of_table 2 rows)) key
  listed_renewals key some =
      let there = some_text (text_at rows 3 key) some in
      listed_requests key
      (names_one (renewal_of_request there.0) request_of_row (text_at rows 2 key) (good_at 3 key there.0 there.1))

  beyond : (table : ℕ) (row : StoredRow) → 3 < table → bad_at table rows row ≡ true
  beyond table row more =
      let zero_ : (table == 0) ≡ false = grind (arith, nat_tests) in
      let one : (table == 1) ≡ false = grind (arith, nat_tests) in
      let two : (table == 2) ≡ false = grind (arith, nat_tests) in
      let three : (table == 3) ≡ false = grind (arith, nat_tests) in
      fifth (table == 0) (table == 1) (table == 2) (table == 3) (is_bad_beginning row) (is_bad_item rows row) (is_bad_request rows row)
      (is_none (renewal_in rows row)) true zero_ one two three

  none_beyond : (table : ℕ) (key : List ℕ) (o : Option (List ℕ)) → text_at rows table key ≡ o → 3 < table → o ≡ None
  none_beyond table key None at more = refl
  none_beyond table key (Some text) at more =
      absurd (cc (beyond table (stored table key text) more, good_at table key text at))

  pub no_more_tables : (table : ℕ) (key : List ℕ) → 3 < table → text_at rows table key ≡ None
  no_more_tables table key more = none_beyond table key (text_at rows table key) refl more
