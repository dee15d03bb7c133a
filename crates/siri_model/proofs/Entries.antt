-- Entries in order: they stay in order, and a test of their values goes through an insertion and a removal.
use Rattle.std.proofs.Common.{◌≡◌, List, [], ◌∷◌, Bool, true, false, refl, sym, ap, ◌∙◌}
use Rattle.std.specs.Cmp.{IsTotalOrder}
use Rattle.std.specs.List.{filter, AllByRecursion}
use Rattle.std.specs.List.Sorted.{IsStrictlySortedBy}
use Rattle.std.specs.Map.{keys_of, remove_entry}
use Rattle.std.specs.BTreeMap.{insert_entry, is_at}
use Rattle.std.specs.Ordering.{ordering_reverse}
use Rattle.std.specs.declared.cmp.Ordering.{Ordering}
use Rattle.std.specs.declared.cmp.Ordering.TheVariants.{Less, Equal, Greater}

module _ {K X : Type 0} (R : K → K → Ordering) where
  -- a key is below all keys
  abbrev pub IsBelow : K → List (K × X) → Type 0
  IsBelow k es = AllByRecursion (λ y. R k y ≡ Less) (keys_of es)

  abbrev pub IsSorted : List (K × X) → Type 0
  IsSorted es = IsStrictlySortedBy R (keys_of es)

  pub insert_front : (k : K) (v : X) (es : List (K × X)) → IsBelow k es → insert_entry R es k v ≡ (k, v) ∷ es
  insert_front k v [] below = refl
  insert_front k v (e ∷ es) below = rw (below.0) refl

  pub remove_none : (k : K) (es : List (K × X)) → IsBelow k es → remove_entry (is_at (R k)) es ≡ es
  remove_none k [] below = refl
  remove_none k (e ∷ es) below = rw (below.0) (ap (λ l. e ∷ l) (remove_none k es below.1))

above : {K : Type 0} {R : K → K → Ordering} (total : IsTotalOrder R) (j k : K) → R k j ≡ Greater → R j k ≡ Less
above total j k greater = total.antisymm j k ∙ ap ordering_reverse greater

module _ {K X : Type 0} {R : K → K → Ordering} (total : IsTotalOrder R) where
  pub below_less : (k j : K) (es : List (K × X)) → R k j ≡ Less → IsBelow R j es → IsBelow R k es
  below_less k j [] less below = tt
  below_less k j (e ∷ es) less below = (total.trans k j e.0 less below.0, below_less k j es less below.1)

  pub below_tied : (k j : K) (es : List (K × X)) → R k j ≡ Equal → IsBelow R j es → IsBelow R k es
  below_tied k j [] tied below = tt
  below_tied k j (e ∷ es) tied below = (total.congr k j e.0 tied ∙ below.0, below_tied k j es tied below.1)

  below_inserted_at : (j k : K) (v : X) (e : K × X) (es : List (K × X)) (o : Ordering) → R k e.0 ≡ o → R j k ≡ Less
      → IsBelow R j (e ∷ es) → IsBelow R j (insert_entry R es k v) → IsBelow R j (insert_entry R (e ∷ es) k v)
  below_inserted_at j k v e es Less h less below rest = rw h (less, below)
  below_inserted_at j k v e es Equal h less below rest = rw h below
  below_inserted_at j k v e es Greater h less below rest = rw h (below.0, rest)

  below_inserted : (j k : K) (v : X) (es : List (K × X)) → R j k ≡ Less → IsBelow R j es → IsBelow R j (insert_entry R es k v)
  below_inserted j k v [] less below = (less, tt)
  below_inserted j k v (e ∷ es) less below = below_inserted_at j k v e es (R k e.0) refl less below (below_inserted j k v es less below.1)

  below_removed_at : (j k : K) (e : K × X) (es : List (K × X)) (o : Ordering) → R k e.0 ≡ o → IsBelow R j (e ∷ es)
      → IsBelow R j (remove_entry (is_at (R k)) es) → IsBelow R j (remove_entry (is_at (R k)) (e ∷ es))
  below_removed_at j k e es Less h below rest = rw h (below.0, rest)
  below_removed_at j k e es Equal h below rest = rw h below.1
  below_removed_at j k e es Greater h below rest = rw h (below.0, rest)

  below_removed : (j k : K) (es : List (K × X)) → IsBelow R j es → IsBelow R j (remove_entry (is_at (R k)) es)
  below_removed j k [] below = tt
  below_removed j k (e ∷ es) below = below_removed_at j k e es (R k e.0) refl below (below_removed j k es below.1)

  sorted_inserted_at : (k : K) (v : X) (e : K × X) (es : List (K × X)) (o : Ordering) → R k e.0 ≡ o
      → IsSorted R (e ∷ es) → IsSorted R (insert_entry R es k v) → IsSorted R (insert_entry R (e ∷ es) k v)
  unfolding IsStrictlySortedBy
  sorted_inserted_at k v e es Less h s rest = rw h ((h, below_less k e.0 es h s.0), s)
  sorted_inserted_at k v e es Equal h s rest = rw h s
  sorted_inserted_at k v e es Greater h s rest = rw h (below_inserted e.0 k v es (above total e.0 k h) s.0, rest)

  pub sorted_inserted : (k : K) (v : X) (es : List (K × X)) → IsSorted R es → IsSorted R (insert_entry R es k v)
  unfolding IsStrictlySortedBy
  sorted_inserted k v [] s = (tt, tt)
  sorted_inserted k v (e ∷ es) s = sorted_inserted_at k v e es (R k e.0) refl s (sorted_inserted k v es s.1)

  sorted_removed_at : (k : K) (e : K × X) (es : List (K × X)) (o : Ordering) → R k e.0 ≡ o → IsSorted R (e ∷ es)
      → IsSorted R (remove_entry (is_at (R k)) es) → IsSorted R (remove_entry (is_at (R k)) (e ∷ es))
  unfolding IsStrictlySortedBy
  sorted_removed_at k e es Less h s rest = rw h (below_removed e.0 k es s.0, rest)
  sorted_removed_at k e es Equal h s rest = rw h s.1
  sorted_removed_at k e es Greater h s rest = rw h (below_removed e.0 k es s.0, rest)

  pub sorted_removed : (k : K) (es : List (K × X)) → IsSorted R es → IsSorted R (remove_entry (is_at (R k)) es)
  unfolding IsStrictlySortedBy
  sorted_removed k [] s = tt
  sorted_removed k (e ∷ es) s = sorted_removed_at k e es (R k e.0) refl s (sorted_removed k es s.1)

-- ---- a test of the values

module _ {K X : Type 0} (R : K → K → Ordering) (p : X → Bool) where
  abbrev pub passing : List (K × X) → List (K × X)
  passing es = filter (λ e. p e.1) es

  below_passing_at : (j : K) (e : K × X) (es : List (K × X)) (b : Bool) → p e.1 ≡ b → IsBelow R j (e ∷ es)
      → IsBelow R j (passing es) → IsBelow R j (passing (e ∷ es))
  below_passing_at j e es true h below rest = rw h (below.0, rest)
  below_passing_at j e es false h below rest = rw h rest

  pub below_passing : (j : K) (es : List (K × X)) → IsBelow R j es → IsBelow R j (passing es)
  below_passing j [] below = tt
  below_passing j (e ∷ es) below = below_passing_at j e es (p e.1) refl below (below_passing j es below.1)

  sorted_passing_at : (e : K × X) (es : List (K × X)) (b : Bool) → p e.1 ≡ b → IsSorted R (e ∷ es) → IsSorted R (passing es) → IsSorted R (passing (e ∷ es))
  unfolding IsStrictlySortedBy
  sorted_passing_at e es true h s rest = rw h (below_passing e.0 es s.0, rest)
  sorted_passing_at e es false h s rest = rw h rest

  pub sorted_passing : (es : List (K × X)) → IsSorted R es → IsSorted R (passing es)
  unfolding IsStrictlySortedBy
  sorted_passing [] s = tt
  sorted_passing (e ∷ es) s = sorted_passing_at e es (p e.1) refl s (sorted_passing es s.1)

module _ {K X : Type 0} {R : K → K → Ordering} (total : IsTotalOrder R) (p : X → Bool) (k : K) where
  abbrev f : List (K × X) → List (K × X)
  f es = filter (λ e. p e.1) es

  abbrev without : List (K × X) → List (K × X)
  without es = remove_entry (is_at (R k)) es

  -- through a removal
  removed_at : (e : K × X) (es : List (K × X)) (o : Ordering) (b : Bool) → R k e.0 ≡ o → p e.1 ≡ b → IsBelow R e.0 es
      → f (without es) ≡ without (f es) → f (without (e ∷ es)) ≡ without (f (e ∷ es))
  removed_at e es Less true h t below rest = rw (h, t) (rw h (ap (λ l. e ∷ l) rest))
  removed_at e es Less false h t below rest = rw (h, t) rest
  removed_at e es Equal true h t below rest = rw (h, t) (rw h refl)
  removed_at e es Equal false h t below rest = rw (h, t) (sym (remove_none R k (f es) (below_tied total k e.0 (f es) h (below_passing R p e.0 es below))))
  removed_at e es Greater true h t below rest = rw (h, t) (rw h (ap (λ l. e ∷ l) rest))
  removed_at e es Greater false h t below rest = rw (h, t) rest

  pub passing_removed : (es : List (K × X)) → IsSorted R es → f (without es) ≡ without (f es)
  unfolding IsStrictlySortedBy
  passing_removed [] s = refl
  passing_removed (e ∷ es) s = removed_at e es (R k e.0) (p e.1) refl refl s.0 (passing_removed es s.1)

  -- through an insertion of a value that fails
  dead_at : (v : X) → p v ≡ false → (e : K × X) (es : List (K × X)) (o : Ordering) (b : Bool) → R k e.0 ≡ o → p e.1 ≡ b
      → IsBelow R e.0 es → f (insert_entry R es k v) ≡ without (f es)
      → f (insert_entry R (e ∷ es) k v) ≡ without (f (e ∷ es))
  dead_at v fails e es Less true h t below rest = rw (h, t)
      (rw fails (rw h (ap (λ l. e ∷ l) (sym (remove_none R k (f es)
      (below_less total k e.0 (f es) h (below_passing R p e.0 es below)))))))
  dead_at v fails e es Less false h t below rest = rw (h, t)
      (rw fails (sym (remove_none R k (f es) (below_less total k e.0 (f es) h (below_passing R p e.0 es below)))))
  dead_at v fails e es Equal true h t below rest = rw (h, t) (rw (fails, h) refl)
  dead_at v fails e es Equal false h t below rest = rw (h, t)
      (rw fails (sym (remove_none R k (f es) (below_tied total k e.0 (f es) h (below_passing R p e.0 es below)))))
  dead_at v fails e es Greater true h t below rest = rw (h, t) (rw h (ap (λ l. e ∷ l) rest))
  dead_at v fails e es Greater false h t below rest = rw (h, t) rest

  pub passing_inserted_failing : (v : X) → p v ≡ false → (es : List (K × X)) → IsSorted R es → f (insert_entry R es k v) ≡ without (f es)
  unfolding IsStrictlySortedBy
  passing_inserted_failing v fails [] s = rw fails refl
  passing_inserted_failing v fails (e ∷ es) s = dead_at v fails e es (R k e.0) (p e.1) refl refl s.0 (passing_inserted_failing v fails es s.1)

  -- through an insertion of a value that passes
  live_at : ((j : K) → R k j ≡ Equal → k ≡ j) → (v : X) → p v ≡ true
      → (e : K × X) (es : List (K × X)) (o : Ordering) (b : Bool) → R k e.0 ≡ o → p e.1 ≡ b → IsBelow R e.0 es
      → f (insert_entry R es k v) ≡ insert_entry R (f es) k v
      → f (insert_entry R (e ∷ es) k v) ≡ insert_entry R (f (e ∷ es)) k v
  live_at exact v passes e es Less true h t below rest = rw (h, t) (rw passes (rw h refl))
  live_at exact v passes e es Less false h t below rest =
      rw (h, t) (rw passes (sym (insert_front R k v (f es)
      (below_less total k e.0 (f es) h (below_passing R p e.0 es below)))))
  live_at exact v passes e es Equal true h t below rest = rw (h, t) (rw (passes, h) refl)
  live_at exact v passes e es Equal false h t below rest =
      rw (h, t) (rw passes (ap (λ j. (j, v) ∷ f es) (sym (exact e.0 h))
      ∙ sym (insert_front R k v (f es) (below_tied total k e.0 (f es) h (below_passing R p e.0 es below)))))
  live_at exact v passes e es Greater true h t below rest = rw (h, t) (rw h (ap (λ l. e ∷ l) rest))
  live_at exact v passes e es Greater false h t below rest = rw (h, t) rest

  pub passing_inserted : ((j : K) → R k j ≡ Equal → k ≡ j) → (v : X) → p v ≡ true → (es : List (K × X)) → IsSorted R es
      → f (insert_entry R es k v) ≡ insert_entry R (f es) k v
  unfolding IsStrictlySortedBy
  passing_inserted exact v passes [] s = rw passes refl
  passing_inserted exact v passes (e ∷ es) s = live_at exact v passes e es (R k e.0) (p e.1) refl refl s.0 (passing_inserted exact v passes es s.1)

-- ---- one test after another

stronger_at : {X : Type 0} (p q : X → Bool) → ((x : X) → q x ≡ true → p x ≡ true) → (x : X) (xs : List X) (b c : Bool)
    → p x ≡ b → q x ≡ c → filter q (filter p xs) ≡ filter q xs → filter q (filter p (x ∷ xs)) ≡ filter q (x ∷ xs)
stronger_at p q h x xs true true e g rest = rw (e, g) (ap (λ l. x ∷ l) rest)
stronger_at p q h x xs true false e g rest = rw (e, g) rest
stronger_at p q h x xs false true e g rest = absurd (let t = h x g in cc)
stronger_at p q h x xs false false e g rest = rw (e, g) rest

-- a filter after a weaker one is the stronger one
pub filter_stronger : {X : Type 0} (p q : X → Bool) → ((x : X) → q x ≡ true → p x ≡ true) → (xs : List X) → filter q (filter p xs) ≡ filter q xs
filter_stronger p q h [] = refl
filter_stronger p q h (x ∷ xs) = stronger_at p q h x xs (p x) (q x) refl refl (filter_stronger p q h xs)
