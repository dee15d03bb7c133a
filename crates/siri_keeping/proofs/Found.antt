-- What is found at a place after puts.
use Rattle.std.proofs.Common.{◌≡◌, ℕ, List, [], ◌∷◌, ◌++◌, Bool, true, false, Option, None, Some, refl, ap, sym, ◌∙◌, subst, find}
use Rattle.std.specs.Prelude.{option_map}
use Rattle.std.specs.List.{filter}
use Rattle.std.specs.Cmp.{tied_itself}
use Rattle.std.specs.Cmp.Lexicographic.{slice_cmp}
use Rattle.std.specs.FinMap.{nat_cmp-IsAntisymmetric, slice_cmp-IsAntisymmetric}
use Rattle.std.specs.Ordering.{nat_cmp, is_eq, is_lt, is_gt, ordering_then}
use Rattle.std.specs.declared.cmp.Ordering.{Ordering}
use Rattle.std.specs.declared.cmp.Ordering.TheVariants.{Less, Equal, Greater}
use Rattle.siri_outside.specs.declared.rows.Put.{Put}
use Rattle.siri_outside.specs.declared.rows.StoredRow.{StoredRow}
use Rattle.siri_outside.specs.Rows.{RowPlace, Rows, place_cmp, place_of, text_at, is_before, is_behind, placed, placed_by, with_put}
use Rattle.siri_outside.proofs.Order.{place_total}

-- ---- places

ties : (o p : Ordering) → ordering_then o p ≡ Equal → (o ≡ Equal) × (p ≡ Equal)
ties Equal p e = (refl, e)
ties Less p e = cc
ties Greater p e = cc

pub tied_is : (o : Ordering) → is_eq o ≡ true → o ≡ Equal
tied_is Equal e = refl
tied_is Less e = cc
tied_is Greater e = cc

-- places that tie are one
pub place_exact : (a b : RowPlace) → place_cmp a b ≡ Equal → a ≡ b
place_exact a b e =
    let both = ties (nat_cmp a.0 b.0) (slice_cmp nat_cmp a.1 b.1) e in
    λ i. (nat_cmp-IsAntisymmetric a.0 b.0 both.0 i, slice_cmp-IsAntisymmetric nat_cmp-IsAntisymmetric a.1 b.1 both.1 i)

-- ---- one that is found among those that pass a test

abbrev at : RowPlace → StoredRow → Bool
at q row = is_eq (place_cmp (place_of row) q)

module _ (test p : StoredRow → Bool) where
  kept_at : (row : StoredRow) (rows : Rows) (b c : Bool) → test row ≡ b → p row ≡ c → (test row ≡ true → p row ≡ true)
      → find test (filter p rows) ≡ find test rows → find test (filter p (row ∷ rows)) ≡ find test (row ∷ rows)
  kept_at row rows true true t h has rest = rw h (rw t refl)
  kept_at row rows true false t h has rest = absurd (cc (has t, h))
  kept_at row rows false true t h has rest = rw h (rw t rest)
  kept_at row rows false false t h has rest = rw h (rw t rest)

  -- where all that are looked for pass
  pub find_kept : ((row : StoredRow) → test row ≡ true → p row ≡ true) → (rows : Rows) → find test (filter p rows) ≡ find test rows
  find_kept has [] = refl
  find_kept has (row ∷ rows) = kept_at row rows (test row) (p row) refl refl (has row) (find_kept has rows)

  none_at : (row : StoredRow) (rows : Rows) (b c : Bool) → test row ≡ b → p row ≡ c → (test row ≡ true → p row ≡ false)
      → find test (filter p rows) ≡ None → find test (filter p (row ∷ rows)) ≡ None
  none_at row rows true true t h has rest = absurd (cc (has t, h))
  none_at row rows true false t h has rest = rw h rest
  none_at row rows false true t h has rest = rw h (rw t rest)
  none_at row rows false false t h has rest = rw h rest

  -- where none does
  pub find_none : ((row : StoredRow) → test row ≡ true → p row ≡ false) → (rows : Rows) → find test (filter p rows) ≡ None
  find_none has [] = refl
  find_none has (row ∷ rows) = none_at row rows (test row) (p row) refl refl (has row) (find_none has rows)

abbrev first_of : Option StoredRow → Option StoredRow → Option StoredRow
first_of None other = other
first_of (Some row) other = Some row

two_at : (test : StoredRow → Bool) (row : StoredRow) (xs ys : Rows) (b : Bool) → test row ≡ b
    → find test (xs ++ ys) ≡ first_of (find test xs) (find test ys)
    → find test (row ∷ (xs ++ ys)) ≡ first_of (find test (row ∷ xs)) (find test ys)
two_at test row xs ys true t rest = rw t refl
two_at test row xs ys false t rest = rw t rest

find_two : (test : StoredRow → Bool) (xs ys : Rows) → find test (xs ++ ys) ≡ first_of (find test xs) (find test ys)
find_two test [] ys = refl
find_two test (row ∷ xs) ys = two_at test row xs ys (test row) refl (find_two test xs ys)

first_none : (o : Option StoredRow) → first_of o None ≡ o
first_none None = refl
first_none (Some row) = refl

-- ---- a put

module _ (put : Put) (rows : Rows) where
  abbrev k : RowPlace
  k = (put.table, put.key)

  abbrev before : Rows
  before = filter (is_before put) rows

  abbrev behind : Rows
  behind = filter (is_behind put) rows

  parts : (q : RowPlace)
      → find (at q) (with_put rows put) ≡ first_of (find (at q) before) (first_of (find (at q) (placed put)) (find (at q) behind))
  parts q = find_two (at q) before (placed put ++ behind) ∙ ap (first_of (find (at q) before)) (find_two (at q) (placed put) behind)

  -- those at a place that ties, that comes before, or that comes behind
  side_of : (q : RowPlace) (o : Ordering) → place_cmp q k ≡ o → (row : StoredRow) → at q row ≡ true → place_cmp (place_of row) k ≡ o
  side_of q o h row t = subst (λ x. place_cmp x k ≡ o) (sym (place_exact (place_of row) q (tied_is (place_cmp (place_of row) q) t))) h

  placed_at : (q : RowPlace) (text : Option (List ℕ)) → is_eq (place_cmp k q) ≡ true
      → option_map (λ row. row.text) (find (at q) (placed_by k.0 k.1 text)) ≡ text
  placed_at q None t = refl
  placed_at q (Some text) t = rw t refl

  placed_none : (q : RowPlace) (text : Option (List ℕ)) → is_eq (place_cmp k q) ≡ false → find (at q) (placed_by k.0 k.1 text) ≡ None
  placed_none q None t = refl
  placed_none q (Some text) t = rw t refl

  -- at its own place
  found_there : (q : RowPlace) → q ≡ k → text_at (with_put rows put) q.0 q.1 ≡ put.text
  found_there q same =
      let tied : place_cmp q k ≡ Equal = ap (λ x. place_cmp x k) same ∙ tied_itself place_total k in
      let back : place_cmp k q ≡ Equal = ap (place_cmp k) same ∙ tied_itself place_total k in
      let no_before = find_none (at q) (is_before put) (λ row t. ap is_lt (side_of q Equal tied row t)) rows in
      let no_behind = find_none (at q) (is_behind put) (λ row t. ap is_gt (side_of q Equal tied row t)) rows in
      ap (option_map (λ row. row.text)) (
      parts q
      ∙ ap (λ o. first_of o (first_of (find (at q) (placed put)) (find (at q) behind))) no_before
      ∙ ap (first_of (find (at q) (placed put))) no_behind
      ∙ first_none (find (at q) (placed put)))
      ∙ placed_at q put.text (ap is_eq back)

  -- at a place before it
  found_before : (q : RowPlace) → place_cmp q k ≡ Less → is_eq (place_cmp k q) ≡ false → find (at q) (with_put rows put) ≡ find (at q) rows
  found_before q less apart =
      let all = find_kept (at q) (is_before put) (λ row t. ap is_lt (side_of q Less less row t)) rows in
      let no_behind = find_none (at q) (is_behind put) (λ row t. ap is_gt (side_of q Less less row t)) rows in
      parts q
      ∙ ap (λ o. first_of (find (at q) before) (first_of o (find (at q) behind))) (placed_none q put.text apart)
      ∙ ap (first_of (find (at q) before)) no_behind
      ∙ first_none (find (at q) before)
      ∙ all

  -- at a place behind it
  found_behind : (q : RowPlace) → place_cmp q k ≡ Greater → is_eq (place_cmp k q) ≡ false
      → find (at q) (with_put rows put) ≡ find (at q) rows
  found_behind q greater apart =
      let none = find_none (at q) (is_before put) (λ row t. ap is_lt (side_of q Greater greater row t)) rows in
      let all = find_kept (at q) (is_behind put) (λ row t. ap is_gt (side_of q Greater greater row t)) rows in
      parts q
      ∙ ap (λ o. first_of o (first_of (find (at q) (placed put)) (find (at q) behind))) none
      ∙ ap (λ o. first_of o (find (at q) behind)) (placed_none q put.text apart)
      ∙ all

  apart_at : (q : RowPlace) (b : Bool) → is_eq (place_cmp k q) ≡ b → (q ≡ k → ⊥) → is_eq (place_cmp k q) ≡ false
  apart_at q true e differ = absurd (differ (sym (place_exact k q (tied_is (place_cmp k q) e))))
  apart_at q false e differ = e

  apart_of : (q : RowPlace) → (q ≡ k → ⊥) → is_eq (place_cmp k q) ≡ false
  apart_of q differ = apart_at q (is_eq (place_cmp k q)) refl differ

  found_by : (q : RowPlace) (o : Ordering) → place_cmp q k ≡ o → (q ≡ k → ⊥) → find (at q) (with_put rows put) ≡ find (at q) rows
  found_by q Less h differ = found_before q h (apart_of q differ)
  found_by q Greater h differ = found_behind q h (apart_of q differ)
  found_by q Equal h differ = absurd (differ (place_exact q k h))

  pub text_there : text_at (with_put rows put) put.table put.key ≡ put.text
  text_there = found_there k refl

  pub text_elsewhere : (q : RowPlace) → (q ≡ k → ⊥) → text_at (with_put rows put) q.0 q.1 ≡ text_at rows q.0 q.1
  text_elsewhere q differ = ap (option_map (λ row. row.text)) (found_by q (place_cmp q k) refl differ)
