-- Rows in order: what is ahead of a row, and what comes next.
use Rattle.std.proofs.Common.{◌≡◌, ◌⊎◌, ◌<◌, ◌≤◌, ℕ, ◌+◌, List, [], ◌∷◌, ◌++◌, map, find, Bool, true, false, Option, None, Some, refl, sym, ap, ◌∙◌, subst, inl, inr, arith}
use Rattle.std.specs.Prelude.{◌==◌, option_map}
use Rattle.std.specs.List.{AllByRecursion as All}
use Rattle.std.specs.List.Sorted.{IsStrictlySortedBy}
use Rattle.std.specs.Option.{option_or}
use Rattle.std.specs.Cmp.Lexicographic.{slice_cmp}
use Rattle.std.specs.Ordering.{is_gt, nat_cmp, ordering_reverse, ordering_then}
use Rattle.std.specs.declared.cmp.Ordering.{Ordering}
use Rattle.std.specs.declared.cmp.Ordering.TheVariants.{Less, Equal, Greater}
use Rattle.std.proofs.lemmas.Bool.{and_from, and_left, and_parts, and_right, cases_eq, eq-eqb, eqb-true, ne_eqb}
use Rattle.std.proofs.lemmas.Cmp.{nat_list_cmp_total, ranked, tied_itself}
use Rattle.std.proofs.lemmas.List.Folds.{find-append}
use Rattle.siri_outside.specs.declared.rows.Row.{Row}
use Rattle.siri_outside.specs.declared.rows.StoredRow.{StoredRow}
use Rattle.siri_outside.specs.Rows.{InOrder, RowPlace, Rows, is_above, is_next, next_row, place_cmp, place_of, row_of}
use Rattle.siri_outside.proofs.Order.{AreBefore, AreBehind}
use Rattle.siri_keep.specs.RowByRow.{IsComing, IsPassed}
use Rattle.siri_keep.proofs.Alls.{all_weaker}

-- ---- places in order

less_by : (m n : ℕ) (o p : Ordering) → o ≡ nat_cmp m n → ordering_then o p ≡ Less → (m < n) ⊎ ((m ≡ n) × (p ≡ Less))
less_by m n Less p is h = inl (ranked m n Less is)
less_by m n Equal p is h = inr (ranked m n Equal is, h)
less_by m n Greater p is h = absurd (cc h)

-- a place before another is of an earlier table, or has a lesser key of the same
pub less_parts : (a b : RowPlace) → place_cmp a b ≡ Less → (a.0 < b.0) ⊎ ((a.0 ≡ b.0) × (slice_cmp nat_cmp a.1 b.1 ≡ Less))
less_parts a b h = less_by a.0 b.0 (nat_cmp a.0 b.0) (slice_cmp nat_cmp a.1 b.1) refl h

table_by : (m n : ℕ) (P : Type 0) → (m < n) ⊎ ((m ≡ n) × P) → m ≤ n
table_by m n P (inl less) = omega (arith, less)
table_by m n P (inr same) = omega (arith, same.0)

pub table_le : (a b : RowPlace) → place_cmp a b ≡ Less → a.0 ≤ b.0
table_le a b h = table_by a.0 b.0 (slice_cmp nat_cmp a.1 b.1 ≡ Less) (less_parts a b h)

pub greater_key : (a b : List ℕ) → slice_cmp nat_cmp a b ≡ Less → slice_cmp nat_cmp b a ≡ Greater
greater_key a b less = nat_list_cmp_total.antisymm b a ∙ ap ordering_reverse less

-- ---- rows in order

first_in : (P : RowPlace → Type 0) (prior : Rows) (row : StoredRow) (rest : Rows) → All P (map place_of (prior ++ row ∷ rest)) → P (place_of row)
first_in P [] row rest all = all.0
first_in P (x ∷ prior) row rest all = first_in P prior row rest all.1

pub those_before : (prior : Rows) (row : StoredRow) (rest : Rows) → InOrder (prior ++ row ∷ rest) → AreBefore (place_of row) prior
unfolding IsStrictlySortedBy
those_before [] row rest s = tt
those_before (x ∷ prior) row rest s =
    (first_in (λ y. place_cmp (place_of x) y ≡ Less) prior row rest s.0, those_before prior row rest s.1)

pub those_behind : (prior : Rows) (row : StoredRow) (rest : Rows) → InOrder (prior ++ row ∷ rest) → AreBehind (place_of row) rest
unfolding IsStrictlySortedBy
those_behind [] row rest s = s.0
those_behind (x ∷ prior) row rest s = those_behind prior row rest s.1

pub order_behind : (prior rest : Rows) → InOrder (prior ++ rest) → InOrder rest
unfolding IsStrictlySortedBy
order_behind [] rest s = s
order_behind (x ∷ prior) rest s = order_behind prior rest s.1

-- ---- all of some

pub all_two : {X : Type 0} (P : X → Type 0) (xs ys : List X) → All P xs → All P ys → All P (xs ++ ys)
all_two P [] ys a b = b
all_two P (x ∷ xs) ys a b = (a.0, all_two P xs ys a.1 b)

pub all_rows : (Q : RowPlace → Type 0) (P : StoredRow → Type 0) → ((row : StoredRow) → Q (place_of row) → P row) → (rows : Rows)
    → All Q (map place_of rows) → All P rows
all_rows Q P f [] a = tt
all_rows Q P f (row ∷ rows) a = (f row a.0, all_rows Q P f rows a.1)

pub all_always : {X : Type 0} (P : X → Type 0) → ((x : X) → P x) → (xs : List X) → All P xs
all_always P f [] = tt
all_always P f (x ∷ xs) = (f x, all_always P f xs)

pub find_none : {X : Type 0} (p : X → Bool) (xs : List X) → All (λ x. p x ≡ false) xs → find p xs ≡ None
find_none p [] a = refl
find_none p (x ∷ xs) a = rw (a.0) (find_none p xs a.1)

pub find_here : {X : Type 0} (p : X → Bool) (x : X) (xs : List X) → p x ≡ true → find p (x ∷ xs) ≡ Some x
find_here p x xs h = rw h refl

-- ---- what is passed and what is to come, once a row was read

other_table : (a b : ℕ) → a < b → (a == b) ≡ false
other_table a b less = ne_eqb a b (λ (e : a ≡ b). absurd (omega (arith, less, e)))

later_table : (a b : ℕ) → b < a → (a == b) ≡ false
later_table a b less = ne_eqb a b (λ (e : a ≡ b). absurd (omega (arith, less, e)))

module _ (row : StoredRow) where
  passed_by : (x : StoredRow) → (x.table < row.table) ⊎ ((x.table ≡ row.table) × (slice_cmp nat_cmp x.key row.key ≡ Less))
      → IsPassed row.table (Some row.key) x
  passed_by x (inl less) =
      let before : x.table ≤ row.table = omega (arith, less) in
      (before, and_left (x.table == row.table) (is_above (Some row.key) x.key) (other_table x.table row.table less))
  passed_by x (inr same) =
      let before : x.table ≤ row.table = omega (arith, same.0) in
      (before, and_right (x.table == row.table) (is_above (Some row.key) x.key) (ap is_gt same.1))

  coming_by : (x : StoredRow) → (row.table < x.table) ⊎ ((row.table ≡ x.table) × (slice_cmp nat_cmp row.key x.key ≡ Less))
      → IsComing row.table (Some row.key) x
  coming_by x (inl less) = inr less
  coming_by x (inr same) =
      inl (and_from (x.table == row.table) (is_above (Some row.key) x.key) (eq-eqb x.table row.table (sym same.0))
      (ap is_gt (greater_key row.key x.key same.1)))

  itself : IsPassed row.table (Some row.key) row
  itself =
      let at : row.table ≤ row.table = omega arith in
      (at, and_right (row.table == row.table) (is_above (Some row.key) row.key) (ap is_gt (tied_itself nat_list_cmp_total row.key)))

  pub passed_with : (prior rest : Rows) → InOrder (prior ++ row ∷ rest) → All (IsPassed row.table (Some row.key)) (prior ++ row ∷ [])
  passed_with prior rest s =
      all_two (IsPassed row.table (Some row.key)) prior (row ∷ [])
      (all_rows (λ x. place_cmp x (place_of row) ≡ Less) (IsPassed row.table (Some row.key))
      (λ x less. passed_by x (less_parts (place_of x) (place_of row) less)) prior (those_before prior row rest s))
      (itself, tt)

  pub coming_after : (prior rest : Rows) → InOrder (prior ++ row ∷ rest) → All (IsComing row.table (Some row.key)) rest
  coming_after prior rest s =
      all_rows (λ x. place_cmp (place_of row) x ≡ Less) (IsComing row.table (Some row.key))
      (λ x less. coming_by x (less_parts (place_of row) (place_of x) less)) rest (those_behind prior row rest s)

-- ---- what comes next

-- a row of a table is the first of those to come
pub record IsFirst (table : ℕ) (rest : Rows) (row : Row) : Type 0 where
  pub stored : StoredRow
  pub behind : Rows
  pub is : rest ≡ stored ∷ behind
  pub mine : stored.table ≡ table
  pub row_is : row ≡ row_of stored

-- or all of them are of later tables
abbrev pub IsAhead : ℕ → Rows → Option Row → Type 0
IsAhead table rest None = All (λ x. table < x.table) rest
IsAhead table rest (Some row) = IsFirst table rest row

not_next : (table : ℕ) (after : Option (List ℕ)) (x : StoredRow) → table < x.table → is_next table after x ≡ false
not_next table after x later = and_left (x.table == table) (is_above after x.key) (later_table x.table table later)

ahead_by : (table : ℕ) (after : Option (List ℕ)) (y : StoredRow) (ys : Rows)
    → (is_next table after y ≡ true) ⊎ (table < y.table) → AreBehind (place_of y) ys
    → IsAhead table (y ∷ ys) (option_map row_of (find (is_next table after) (y ∷ ys)))
ahead_by table after y ys (inl next) behind =
    let mine = eqb-true y.table table (and_parts (y.table == table) (is_above after y.key) next).0 in
    subst (λ (o : Option StoredRow). IsAhead table (y ∷ ys) (option_map row_of o)) (sym (find_here (is_next table after) y ys next))
    (record { stored = y; behind = ys; is = refl; mine = mine; row_is = refl })
ahead_by table after y ys (inr later) behind =
    let all : All (λ (x : StoredRow). table < x.table) (y ∷ ys) = (
      later,
      all_rows (λ x. place_cmp (place_of y) x ≡ Less) (λ x. table < x.table)
          (λ x less. omega (arith, later, table_le (place_of y) (place_of x) less)) ys behind,
    ) in
    let none = find_none (is_next table after) (y ∷ ys)
    (all_weaker (λ (x : StoredRow). table < x.table) (λ x. is_next table after x ≡ false) (not_next table after) (y ∷ ys) all) in
    subst (λ (o : Option StoredRow). IsAhead table (y ∷ ys) (option_map row_of o)) (sym none) all

pub find_ahead : (table : ℕ) (after : Option (List ℕ)) (rest : Rows) → All (IsComing table after) rest → InOrder rest
    → IsAhead table rest (option_map row_of (find (is_next table after) rest))
unfolding IsStrictlySortedBy
find_ahead table after [] coming s = tt
find_ahead table after (y ∷ ys) coming s = ahead_by table after y ys coming.0 s.0

-- the next row of all is that of those to come
pub next_ahead : (table : ℕ) (after : Option (List ℕ)) (rows prior rest : Rows) → rows ≡ prior ++ rest
    → All (IsPassed table after) prior → next_row table after rows ≡ option_map row_of (find (is_next table after) rest)
next_ahead table after rows prior rest split passed =
    let none = find_none (is_next table after) prior
    (all_weaker (IsPassed table after) (λ x. is_next table after x ≡ false) (λ x p. p.1) prior passed) in
    ap (λ (all : Rows). option_map row_of (find (is_next table after) all)) split
    ∙ ap (option_map row_of) (find-append (is_next table after) prior rest
    ∙ ap (λ (o : Option StoredRow). option_or o (find (is_next table after) rest)) none)

-- ---- the next table

pub passed_next : (table : ℕ) (after : Option (List ℕ)) (x : StoredRow) → IsPassed table after x → IsPassed (table + 1) None x
passed_next table after x p =
    let before : x.table ≤ table + 1 = omega (arith, p.0) in
    let less : x.table < table + 1 = omega (arith, p.0) in
    (before, and_left (x.table == table + 1) true (other_table x.table (table + 1) less))

coming_from : (table : ℕ) (x : StoredRow) → table < x.table → (x.table ≡ table + 1) ⊎ (x.table ≡ table + 1 → ⊥) → IsComing (table + 1) None x
coming_from table x later (inl same) = inl (and_from (x.table == table + 1) true (eq-eqb x.table (table + 1) same) refl)
coming_from table x later (inr differ) = inr (omega (arith, later, differ))

pub coming_next : (table : ℕ) (x : StoredRow) → table < x.table → IsComing (table + 1) None x
coming_next table x later = coming_from table x later (cases_eq x.table (table + 1))
