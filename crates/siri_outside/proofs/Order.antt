-- Rows stay in order.
use Rattle.std.proofs.Common.{◌≡◌, ◌<◌, ℕ, List, [], ◌∷◌, ◌++◌, map, Bool, true, false, Option, None, Some, refl, ap, ◌∙◌}
use Rattle.std.specs.List.{filter, AllByRecursion}
use Rattle.std.specs.List.Sorted.{IsStrictlySortedBy}
use Rattle.std.specs.Cmp.{IsTotalOrder}
use Rattle.std.specs.Ordering.{ordering_reverse, is_lt, is_gt}
use Rattle.std.specs.declared.cmp.Ordering.{Ordering}
use Rattle.std.specs.declared.cmp.Ordering.TheVariants.{Less, Equal, Greater}
use Rattle.std.proofs.lemmas.Cmp.{nat_cmp_total, nat_list_cmp_total, on_total, then_total}
use Rattle.siri_outside.specs.declared.rows.Put.{Put}
use Rattle.siri_outside.specs.declared.rows.StoredRow.{StoredRow}
use Rattle.siri_outside.specs.Rows.{HasByteTables, RowPlace, Rows, InOrder, place_cmp, place_of, placed, placed_by}
use Rattle.siri_outside.specs.Rows.{is_before, is_behind, with_put, with_puts}

-- all rows of these stand before a place, or behind it
abbrev pub AreBefore : RowPlace → Rows → Type 0
AreBefore k rows = AllByRecursion (λ x. place_cmp x k ≡ Less) (map place_of rows)

abbrev pub AreBehind : RowPlace → Rows → Type 0
AreBehind k rows = AllByRecursion (λ y. place_cmp k y ≡ Less) (map place_of rows)

-- tables and keys are totally ordered
pub place_total : IsTotalOrder place_cmp
place_total =
    then_total (on_total (λ (p : RowPlace). p.0) nat_cmp_total) (on_total (λ (p : RowPlace). p.1) nat_list_cmp_total)

less_of : (o : Ordering) → is_lt o ≡ true → o ≡ Less
less_of Less h = refl
less_of Equal h = absurd (cc)
less_of Greater h = absurd (cc)

greater_of : (o : Ordering) → is_gt o ≡ true → o ≡ Greater
greater_of Less h = absurd (cc)
greater_of Equal h = absurd (cc)
greater_of Greater h = refl

-- ---- those that pass a test

module _ (p : StoredRow → Bool) where
  all_case : (P : RowPlace → Type 0) (row : StoredRow) (rows : Rows) (b : Bool) → p row ≡ b
      → (p row ≡ true → P (place_of row)) → AllByRecursion P (map place_of (filter p rows))
      → AllByRecursion P (map place_of (filter p (row ∷ rows)))
  all_case P row rows true h here rest = rw h (here h, rest)
  all_case P row rows false h here rest = rw h rest

  pub all_passing : (P : RowPlace → Type 0) → ((row : StoredRow) → p row ≡ true → P (place_of row)) → (rows : Rows)
      → AllByRecursion P (map place_of (filter p rows))
  all_passing P has [] = tt
  all_passing P has (row ∷ rows) = all_case P row rows (p row) refl (has row) (all_passing P has rows)

  pub all_kept : (P : RowPlace → Type 0) (rows : Rows) → AllByRecursion P (map place_of rows)
      → AllByRecursion P (map place_of (filter p rows))
  all_kept P [] a = tt
  all_kept P (row ∷ rows) a = all_case P row rows (p row) refl (λ h. a.0) (all_kept P rows a.1)

  order_case : (row : StoredRow) (rows : Rows) (b : Bool) → p row ≡ b → AreBehind (place_of row) (filter p rows)
      → InOrder (filter p rows) → InOrder (filter p (row ∷ rows))
  unfolding IsStrictlySortedBy
  order_case row rows true h above rest = rw h (above, rest)
  order_case row rows false h above rest = rw h rest

  pub order_kept : (rows : Rows) → InOrder rows → InOrder (filter p rows)
  unfolding IsStrictlySortedBy
  order_kept [] s = tt
  order_kept (row ∷ rows) s =
      let behind = all_kept (λ y. place_cmp (place_of row) y ≡ Less) rows s.0 in
      order_case row rows (p row) refl behind (order_kept rows s.1)

-- ---- one after the other

all_two : (P : RowPlace → Type 0) (xs ys : Rows) → AllByRecursion P (map place_of xs)
    → AllByRecursion P (map place_of ys) → AllByRecursion P (map place_of (xs ++ ys))
all_two P [] ys a b = b
all_two P (x ∷ xs) ys a b = (a.0, all_two P xs ys a.1 b)

-- what is before a place is before all that are behind it
behind_all : (x k : RowPlace) (ys : Rows) → place_cmp x k ≡ Less → AreBehind k ys → AreBehind x ys
behind_all x k [] less a = tt
behind_all x k (y ∷ ys) less a = (place_total.trans x k (place_of y) less a.0, behind_all x k ys less a.1)

order_two : (k : RowPlace) (xs ys : Rows) → InOrder xs → InOrder ys → AreBefore k xs → AreBehind k ys
    → InOrder (xs ++ ys)
unfolding IsStrictlySortedBy
order_two k [] ys s t before behind = t
order_two k (x ∷ xs) ys s t before behind =
    let all = all_two (λ y. place_cmp (place_of x) y ≡ Less) xs ys s.0 (behind_all (place_of x) k ys before.0 behind) in
    (all, order_two k xs ys s.1 t before.1 behind)

-- a row between two parts
order_three : (k : RowPlace) (xs ys : Rows) (text : Option (List ℕ)) → InOrder xs → InOrder ys → AreBefore k xs
    → AreBehind k ys → InOrder (xs ++ (placed_by k.0 k.1 text ++ ys))
unfolding IsStrictlySortedBy
order_three k xs ys None s t before behind = order_two k xs ys s t before behind
order_three k [] ys (Some text) s t before behind = (behind, t)
order_three k (x ∷ xs) ys (Some text) s t before behind =
    let later = placed_by k.0 k.1 (Some text) ++ ys in
    let past = behind_all (place_of x) k ys before.0 behind in
    let all = all_two (λ y. place_cmp (place_of x) y ≡ Less) xs later s.0 (before.0, past) in
    (all, order_three k xs ys (Some text) s.1 t before.1 behind)

-- ---- puts

turned : (x k : RowPlace) → place_cmp x k ≡ Greater → place_cmp k x ≡ Less
turned x k h = place_total.antisymm k x ∙ ap ordering_reverse h

those_before : (put : Put) (rows : Rows) → AreBefore (put.table, put.key) (filter (is_before put) rows)
those_before put rows =
    let k : RowPlace = (put.table, put.key) in
    all_passing (is_before put) (λ x. place_cmp x k ≡ Less) (λ row h. less_of (place_cmp (place_of row) k) h) rows

those_behind : (put : Put) (rows : Rows) → AreBehind (put.table, put.key) (filter (is_behind put) rows)
those_behind put rows =
    let k : RowPlace = (put.table, put.key) in
    all_passing (is_behind put) (λ y. place_cmp k y ≡ Less)
    (λ row h. turned (place_of row) k (greater_of (place_cmp (place_of row) k) h)) rows

pub order_put : (rows : Rows) (put : Put) → InOrder rows → InOrder (with_put rows put)
order_put rows put s =
    order_three (put.table, put.key) (filter (is_before put) rows) (filter (is_behind put) rows) put.text
    (order_kept (is_before put) rows s) (order_kept (is_behind put) rows s) (those_before put rows) (those_behind put rows)

pub order_puts : (rows : Rows) (list : List Put) → InOrder rows → InOrder (with_puts rows list)
order_puts rows [] s = s
order_puts rows (put ∷ list) s = order_puts (with_put rows put) list (order_put rows put s)

-- a put of a table that a byte names
pub tables_put : (rows : Rows) (put : Put) → HasByteTables rows → HasByteTables (placed put) → HasByteTables (with_put rows put)
tables_put rows put has own =
    let P : RowPlace → Type 0 = λ place. place.0 < 256 in
    let behind = all_two P (placed put) (filter (is_behind put) rows) own (all_kept (is_behind put) P rows has) in
    all_two P (filter (is_before put) rows) (placed put ++ filter (is_behind put) rows) (all_kept (is_before put) P rows has) behind

pub order_none : InOrder []
unfolding IsStrictlySortedBy
order_none = tt
