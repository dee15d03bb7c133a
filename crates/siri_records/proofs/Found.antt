-- What a search by halves finds.
use Rattle.std.proofs.Common.{◌≡◌, ℕ, suc, zero, ◌<◌, ◌≤◌, List, [], ◌∷◌, length, get_or, Result, Ok, Err, ◌+◌, refl, ap, ◌∙◌, sym, arith, inl, inr}
use Rattle.std.specs.Map.{keys_of}
use Rattle.std.specs.Cmp.{IsTotalOrder}
use Rattle.std.specs.Bool.{OnTrue}
use Rattle.std.specs.Ordering.{ordering_reverse, ordering_index, is_lt}
use Rattle.std.specs.List.Sorted.{IsStrictlySortedBy, IsBinarySearchResult, IsSearchInRange}
use Rattle.std.specs.declared.cmp.Ordering.{Ordering}
use Rattle.std.specs.declared.cmp.Ordering.TheVariants.{Less, Equal, Greater}
use Rattle.std.proofs.lemmas.Map.Keys.{Less-from_sorted}
use Rattle.std.proofs.lemmas.Bool.{cases_lt}
use Rattle.std.proofs.lemmas.List.{get_or_default}
use Rattle.siri_records.specs.Places.{IsHere, IsGap, Finds}

module _ {K X : Type 0} (query : K → Ordering) where
  pub here_from : (es : List (K × X)) (i : ℕ) → i < length es
      → ((j : ℕ) (d : K × X) → j < i → query (get_or es j d).0 ≡ Greater)
      → ((d : K × X) → query (get_or es i d).0 ≡ Equal) → IsHere query es i
  here_from [] i lt above equal = absurd (omega (arith, lt))
  here_from (e ∷ es) zero lt above equal = equal e
  here_from (e ∷ es) (suc i) lt above equal = (above 0 e (omega arith), here_from es i (omega (arith, lt)) (λ j d l. above (suc j) d (omega (arith, l))) equal)

  pub gap_from : (es : List (K × X)) (i : ℕ) → i ≤ length es
      → ((j : ℕ) (d : K × X) → j < i → query (get_or es j d).0 ≡ Greater)
      → ((j : ℕ) (d : K × X) → i ≤ j → j < length es → query (get_or es j d).0 ≡ Less) → IsGap query es i
  gap_from [] zero le above below = tt
  gap_from [] (suc i) le above below = absurd (omega (arith, le))
  gap_from (e ∷ es) zero le above below = below 0 e (omega arith) (omega arith)
  gap_from (e ∷ es) (suc i) le above below = (
    above 0 e (omega arith),
    gap_from es i (omega (arith, le)) (λ j d l. above (suc j) d (omega (arith, l)))
        (λ j d l m. below (suc j) d (omega (arith, l)) (omega (arith, m))),
  )

get_or_keys : {K X : Type 0} (es : List (K × X)) (i : ℕ) (d : K × X) → get_or (keys_of es) i d.0 ≡ (get_or es i d).0
get_or_keys [] i d = refl
get_or_keys (e ∷ es) zero d = refl
get_or_keys (e ∷ es) (suc i) d = get_or_keys es i d

length_keys : {K X : Type 0} (es : List (K × X)) → length (keys_of es) ≡ length es
length_keys [] = refl
length_keys (e ∷ es) = ap suc (length_keys es)

less_at : {K X : Type 0} (cmp : K → K → Ordering) (es : List (K × X)) → IsStrictlySortedBy cmp (keys_of es)
    → (i j : ℕ) (d : K × X) → i < j → j < length es → cmp (get_or es i d).0 (get_or es j d).0 ≡ Less
less_at cmp es sorted i j d lt in_range =
    rw (← get_or_keys es i d, ← get_or_keys es j d) (Less-from_sorted cmp (keys_of es) i j d.0 sorted lt (rw (length_keys es) in_range))

highest : (o : Ordering) → ordering_index o ≤ 2
highest Less = omega arith
highest Equal = omega arith
highest Greater = omega arith

module _ {K : Type 0} {cmp : K → K → Ordering} (total : IsTotalOrder cmp) (k : K) where
  flip : (x : K) (o : Ordering) → cmp x k ≡ o → cmp k x ≡ ordering_reverse o
  flip x o h = total.antisymm k x ∙ ap ordering_reverse h

  flip_left : (x y : K) → cmp x y ≡ Less → cmp y k ≡ Equal → cmp x k ≡ Less
  flip_left x y less h = total.antisymm x k ∙ (ap ordering_reverse (sym (total.congr y k x h)) ∙ (sym (total.antisymm x y) ∙ less))

  -- the answers of a search rise along keys in order
  rises : (x y : K) → cmp x y ≡ Less → (o : Ordering) → cmp y k ≡ o → ordering_index (cmp x k) ≤ ordering_index o
  rises x y less Less h = rw (total.trans x y k less h) (omega arith)
  rises x y less Equal h = rw (flip_left x y less h) (omega arith)
  rises x y less Greater h = highest (cmp x k)

module _ {K X : Type 0} {cmp : K → K → Ordering} (total : IsTotalOrder cmp) (k : K) (es : List (K × X)) (sorted : IsStrictlySortedBy cmp (keys_of es)) where
  all_rise : (a b : ℕ) (d : K × X) → a ≤ b → b < length es → ordering_index (cmp (get_or es a d).0 k) ≤ ordering_index (cmp (get_or es b d).0 k)
  all_rise a b d le lt = elim (cases_lt a b) [
    | inl before ↦ rises total k (get_or es a d).0 (get_or es b d).0 (less_at cmp es sorted a b d before lt) (cmp (get_or es b d).0 k) refl
    | inr after ↦ let same : a ≡ b = omega arith in rw same (omega arith)
  ]

  -- a binary search ends at the key, or at the gap for it
  pub found : (r : Result ℕ ℕ) → IsSearchInRange r (length es) → IsBinarySearchResult (λ e. cmp e.0 k) es r → Finds (cmp k) es r
  found (Ok i) in_range equal = here_from (cmp k) es i in_range
      (λ j d lt. sym (total.congr (get_or es i d).0 k (get_or es j d).0 (equal d))
      ∙ (total.antisymm (get_or es i d).0 (get_or es j d).0
      ∙ ap ordering_reverse (less_at cmp es sorted j i d lt in_range)))
      (λ d. flip total k (get_or es i d).0 Equal (equal d))
  found (Err i) in_range parted =
      let p = parted all_rise in
      gap_from (cmp k) es i in_range (λ j d lt. flip total k (get_or es j d).0 Less (p.0 j d (omega arith) lt))
      (λ j d le lt. flip total k (get_or es j d).0 Greater (p.1 j d le lt))

module _ {K X : Type 0} {cmp : K → K → Ordering} (total : IsTotalOrder cmp) (k : K) (es : List (K × X)) (sorted : IsStrictlySortedBy cmp (keys_of es)) (i : ℕ)
    (len : length es ≡ i + 1) (d : K × X) (last : cmp (get_or es i d).0 k ≡ Less) where
  all_below : (j : ℕ) → j < length es → cmp (get_or es j d).0 k ≡ Less
  all_below j lt = elim (cases_lt j i) [
    | inl before ↦ total.trans (get_or es j d).0 (get_or es i d).0 k (less_at cmp es sorted j i d before (omega (arith, len))) last
    | inr after ↦ let same : j ≡ i = omega (arith, lt, len, after) in rw same last
  ]

  -- a key above the last one is above all of them
  pub above_all : Finds (cmp k) es (Err (length es))
  above_all = gap_from (cmp k) es (length es) (omega arith)
      (λ j e lt. flip total k (get_or es j e).0 Less (rw (get_or_default es j e d lt) (all_below j lt)))
      (λ j e le lt. absurd (omega (arith, le, lt)))

-- the answer of a comparison with the last entry
pub above_last : {K X : Type 0} {cmp : K → K → Ordering} → IsTotalOrder cmp → (k : K) (es : List (K × X)) → IsStrictlySortedBy cmp (keys_of es)
    → (i : ℕ) (last : K × X) → length es ≡ i + 1 → last ≡ get_or es i last
    → (o : Ordering) → o ≡ cmp last.0 k → OnTrue (is_lt o) (Finds (cmp k) es (Err (length es)))
above_last {cmp = cmp} total k es sorted i last len here Less same =
    above_all total k es sorted i len last (ap (λ e. cmp e.0 k) (sym here) ∙ sym same)
above_last total k es sorted i last len here Equal same = tt
above_last total k es sorted i last len here Greater same = tt
