-- Ranges of entries in order.
use Rattle.std.proofs.Common.{◌≡◌, ℕ, suc, zero, ◌+◌, ◌-◌, ◌<◌, ◌≤◌, List, [], ◌∷◌, ◌++◌, length, take, drop, Bool}
use Rattle.std.proofs.Common.{true, false, refl, ap}
use Rattle.std.proofs.Common.{sym, subst, ◌∙◌, arith, add-one, slice_range}
use Rattle.std.specs.List.{All, AllByRecursion, filter}
use Rattle.std.specs.List.Sorted.{IsStrictlySortedBy}
use Rattle.std.specs.Map.{keys_of}
use Rattle.std.specs.declared.cmp.Ordering.{Ordering}
use Rattle.std.specs.declared.cmp.Ordering.TheVariants.{Less}
use Rattle.std.proofs.lemmas.List.{append-nil, take-append-drop, drop-take}
use Rattle.std.proofs.lemmas.List.Elements.{All-from_recursion, recursion_from_All, All-take, All-drop, filter-append}
use Rattle.std.proofs.lemmas.List.Folds.{drop_split}

-- ---- a test that holds of all keys before one of which it holds

module _ {K : Type 0} (cmp : K → K → Ordering) (p : K → Bool)
    (closed : (a b : K) → cmp a b ≡ Less → p b ≡ true → p a ≡ true) where
  fails_after : (a b : K) (t : Bool) → p b ≡ t → cmp a b ≡ Less → p a ≡ false → p b ≡ false
  fails_after a b true is less fails = absurd (cc (closed a b less is, fails))
  fails_after a b false is less fails = is

module _ {K X : Type 0} (cmp : K → K → Ordering) (p : K → Bool)
    (closed : (a b : K) → cmp a b ≡ Less → p b ≡ true → p a ≡ true) where
  reached : (P : K → Type 0) (es : List (K × X)) (m : ℕ) (e : K × X) (more : List (K × X))
      → AllByRecursion P (keys_of es) → drop m es ≡ e ∷ more → P e.0
  reached P [] zero e more a is = absurd (cc is)
  reached P [] (suc m) e more a is = absurd (cc is)
  reached P (x ∷ es) zero e more a is = let same : x ≡ e = cc is in subst (λ (y : K × X). P y.0) same a.0
  reached P (x ∷ es) (suc m) e more a is = reached P es m e more a.1 is

  passes_to : (es : List (K × X)) (m : ℕ) (e : K × X) (more : List (K × X)) → IsStrictlySortedBy cmp (keys_of es)
      → drop m es ≡ e ∷ more → p e.0 ≡ true → AllByRecursion (λ e. p e.0 ≡ true) (take (suc m) es)
  unfolding IsStrictlySortedBy
  passes_to [] zero e more s is passes = absurd (cc is)
  passes_to [] (suc m) e more s is passes = absurd (cc is)
  passes_to (x ∷ es) zero e more s is passes = let same : x ≡ e = cc is in (ap (λ (y : K × X). p y.0) same ∙ passes, tt)
  passes_to (x ∷ es) (suc m) e more s is passes =
      (closed x.0 e.0 (reached (λ y. cmp x.0 y ≡ Less) es m e more s.0 is) passes, passes_to es m e more s.1 is passes)

  all_fail : (k : K) (es : List (K × X)) → p k ≡ false → AllByRecursion (λ y. cmp k y ≡ Less) (keys_of es)
      → AllByRecursion (λ e. p e.0 ≡ false) es
  all_fail k [] fails a = tt
  all_fail k (x ∷ es) fails a = (fails_after cmp p closed k x.0 (p x.0) refl a.0 fails, all_fail k es fails a.1)

  fails_from : (es : List (K × X)) (m : ℕ) (e : K × X) (more : List (K × X)) → IsStrictlySortedBy cmp (keys_of es)
      → drop m es ≡ e ∷ more → p e.0 ≡ false → AllByRecursion (λ e. p e.0 ≡ false) (drop m es)
  unfolding IsStrictlySortedBy
  fails_from [] zero e more s is fails = tt
  fails_from [] (suc m) e more s is fails = tt
  fails_from (x ∷ es) zero e more s is fails =
      let same : x ≡ e = cc is in
      let first : p x.0 ≡ false = ap (λ (y : K × X). p y.0) same ∙ fails in
      (first, all_fail x.0 es first s.0)
  fails_from (x ∷ es) (suc m) e more s is fails = fails_from es m e more s.1 is fails

  -- it holds of all up to the place of one of which it holds, and fails from the place of one on of which it fails
  pub holds_to : (es : List (K × X)) (m : ℕ) (e : K × X) (more : List (K × X)) → IsStrictlySortedBy cmp (keys_of es)
      → drop m es ≡ e ∷ more → p e.0 ≡ true → All (λ e. p e.0 ≡ true) (take (m + 1) es)
  holds_to es m e more s is passes =
      rw add-one (All-from_recursion (λ e. p e.0 ≡ true) (take (suc m) es) (passes_to es m e more s is passes))

  pub fails_on : (es : List (K × X)) (m : ℕ) (e : K × X) (more : List (K × X)) → IsStrictlySortedBy cmp (keys_of es)
      → drop m es ≡ e ∷ more → p e.0 ≡ false → All (λ e. p e.0 ≡ false) (drop m es)
  fails_on es m e more s is fails =
      All-from_recursion (λ e. p e.0 ≡ false) (drop m es) (fails_from es m e more s is fails)

-- ---- a range between two places is what a filter keeps

module _ {X : Type 0} (p : X → Bool) where
  kept_none : (xs : List X) → AllByRecursion (λ x. p x ≡ false) xs → filter p xs ≡ []
  kept_none [] a = refl
  kept_none (x ∷ xs) a = rw a.0 (kept_none xs a.1)

  kept_all : (xs : List X) → AllByRecursion (λ x. p x ≡ true) xs → filter p xs ≡ xs
  kept_all [] a = refl
  kept_all (x ∷ xs) a = rw a.0 (ap (λ l. x ∷ l) (kept_all xs a.1))

  pub range_is_kept : (xs : List X) (from to : ℕ) → from ≤ to → All (λ x. p x ≡ false) (take from xs)
      → All (λ x. p x ≡ true) (slice_range xs from to) → All (λ x. p x ≡ false) (drop to xs)
      → slice_range xs from to ≡ filter p xs
  range_is_kept xs from to le before inside after =
      let front = kept_none (take from xs) (recursion_from_All (λ x. p x ≡ false) (take from xs) before) in
      let middle =
      kept_all (slice_range xs from to) (recursion_from_All (λ x. p x ≡ true) (slice_range xs from to) inside) in
      let back = kept_none (drop to xs) (recursion_from_All (λ x. p x ≡ false) (drop to xs) after) in
      let rest : filter p (drop from xs) ≡ slice_range xs from to =
      ap (filter p) (drop_split xs from to le)
      ∙ (filter-append p (slice_range xs from to) (drop to xs)
      ∙ ((λ i. middle i ++ back i) ∙ append-nil (slice_range xs from to))) in
      let whole : filter p xs ≡ slice_range xs from to =
      ap (filter p) (sym (take-append-drop from xs))
      ∙ (filter-append p (take from xs) (drop from xs) ∙ (λ i. front i ++ rest i)) in
      sym whole

  -- a filter that lets all through that another one does
  twice_case : (q : X → Bool) (x : X) (xs : List X) (b c : Bool) → p x ≡ b → q x ≡ c → (q x ≡ true → p x ≡ true)
      → filter q (filter p xs) ≡ filter q xs → filter q (filter p (x ∷ xs)) ≡ filter q (x ∷ xs)
  twice_case q x xs true true hp hq through rest = rw (hp, hq) (ap (λ l. x ∷ l) rest)
  twice_case q x xs true false hp hq through rest = rw (hp, hq) rest
  twice_case q x xs false true hp hq through rest = absurd (cc (through hq, hp))
  twice_case q x xs false false hp hq through rest = rw (hp, hq) rest

  pub filter_through : (q : X → Bool) (xs : List X) → AllByRecursion (λ x. q x ≡ true → p x ≡ true) xs
      → filter q (filter p xs) ≡ filter q xs
  filter_through q [] a = refl
  filter_through q (x ∷ xs) a = twice_case q x xs (p x) (q x) refl refl a.0 (filter_through q xs a.1)

-- ---- the places of a range

module _ {X : Type 0} where
  turned : (P Q : X → Type 0) (xs : List X) (from to : ℕ) → ((x : X) → P x → Q x → ⊥) → from ≤ length xs
      → AllByRecursion P (take from xs) → AllByRecursion Q (drop to xs) → from ≤ to
  turned P Q xs zero to apart within before after = omega arith
  turned P Q [] (suc from) to apart within before after = omega (arith, within)
  turned P Q (x ∷ xs) (suc from) zero apart within before after = absurd (apart x before.0 after.0)
  turned P Q (x ∷ xs) (suc from) (suc to) apart within before after =
      let rest : from ≤ to = turned P Q xs from to apart (omega (arith, within)) before.1 after in
      omega (arith, rest)

  -- what holds before one place and what holds from another on contradict each other
  pub in_turn : (P Q : X → Type 0) (xs : List X) (from to : ℕ) → ((x : X) → P x → Q x → ⊥) → from ≤ length xs
      → All P (take from xs) → All Q (drop to xs) → from ≤ to
  in_turn P Q xs from to apart within before after =
      turned P Q xs from to apart within (recursion_from_All P (take from xs) before)
      (recursion_from_All Q (drop to xs) after)

  -- what holds from one place on, or before another, holds of all between
  pub range_after : (P : X → Type 0) (xs : List X) (from to : ℕ) → All P (drop from xs) → All P (slice_range xs from to)
  range_after P xs from to all = All-take P (to - from) (drop from xs) all

  pub range_before : (P : X → Type 0) (xs : List X) (from to : ℕ) → from ≤ to → All P (take to xs)
      → All P (slice_range xs from to)
  range_before P xs from to le all =
      let sum : from + (to - from) ≡ to = omega arith in
      let same : drop from (take to xs) ≡ slice_range xs from to =
      ap (λ n. drop from (take n xs)) (sym sum) ∙ drop-take from (to - from) xs in
      subst (λ (l : List X). All P l) same (All-drop P from (take to xs) all)

  take_none : (n : ℕ) → take {A = X} n [] ≡ []
  take_none zero = refl
  take_none (suc n) = refl

  take_next : (xs more : List X) (n m : ℕ) (x : X) → n ≡ suc m → xs ≡ x ∷ more → take n xs ≡ x ∷ take m more
  take_next xs more n m x one is = (λ i. take (one i) (is i))

  -- a range begins with what is at its place
  pub range_next : (xs : List X) (from to : ℕ) (x : X) → from < to → drop from xs ≡ x ∷ drop (from + 1) xs
      → slice_range xs from to ≡ x ∷ slice_range xs (from + 1) to
  range_next xs from to x lt is = let one : to - from ≡ suc (to - (from + 1)) = omega arith in
      take_next (drop from xs) (drop (from + 1) xs) (to - from) (to - (from + 1)) x one is
