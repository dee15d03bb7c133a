-- What stays where some entries are dropped.
use Rattle.std.proofs.Common.{◌≡◌, List, [], ◌∷◌, Bool, true, false, not, refl}
use Rattle.std.specs.List.{filter, AllByRecursion}
use Rattle.std.specs.List.Sorted.{IsStrictlySortedBy}
use Rattle.std.specs.Map.{keys_of, values_of}
use Rattle.std.specs.declared.cmp.Ordering.{Ordering}
use Rattle.std.specs.declared.cmp.Ordering.TheVariants.{Less}

-- keys stay in order
module _ {K X : Type 0} (p : K × X → Bool) where
  all_case : (P : K → Type 0) (e : K × X) (es : List (K × X)) (b : Bool) → p e ≡ b → P e.0
      → AllByRecursion P (keys_of (filter p es)) → AllByRecursion P (keys_of (filter p (e ∷ es)))
  all_case P e es true h here rest = rw h (here, rest)
  all_case P e es false h here rest = rw h rest

  pub all_kept : (P : K → Type 0) (es : List (K × X)) → AllByRecursion P (keys_of es) → AllByRecursion P (keys_of (filter p es))
  all_kept P [] a = tt
  all_kept P (e ∷ es) a = all_case P e es (p e) refl a.0 (all_kept P es a.1)

  sorted_case : (cmp : K → K → Ordering) (e : K × X) (es : List (K × X)) (b : Bool) → p e ≡ b
      → AllByRecursion (λ y. cmp e.0 y ≡ Less) (keys_of (filter p es)) → IsStrictlySortedBy cmp (keys_of (filter p es))
      → IsStrictlySortedBy cmp (keys_of (filter p (e ∷ es)))
  unfolding IsStrictlySortedBy
  sorted_case cmp e es true h above rest = rw h (above, rest)
  sorted_case cmp e es false h above rest = rw h rest

  pub sorted_kept : (cmp : K → K → Ordering) (es : List (K × X)) → IsStrictlySortedBy cmp (keys_of es) → IsStrictlySortedBy cmp (keys_of (filter p es))
  unfolding IsStrictlySortedBy
  sorted_kept cmp [] s = tt
  sorted_kept cmp (e ∷ es) s = sorted_case cmp e es (p e) refl (all_kept (λ y. cmp e.0 y ≡ Less) es s.0) (sorted_kept cmp es s.1)

-- a test of the values
module _ {K X : Type 0} (t : X → Bool) where
  passing_case : (e : K × X) (es : List (K × X)) (b : Bool) → t e.1 ≡ b
      → AllByRecursion (λ x. t x ≡ false) (values_of (filter (λ e. not (t e.1)) es))
      → AllByRecursion (λ x. t x ≡ false) (values_of (filter (λ e. not (t e.1)) (e ∷ es)))
  passing_case e es true h rest = rw h rest
  passing_case e es false h rest = rw h (h, rest)

  -- those that fail it are kept
  pub passing : (es : List (K × X)) → AllByRecursion (λ x. t x ≡ false) (values_of (filter (λ e. not (t e.1)) es))
  passing [] = tt
  passing (e ∷ es) = passing_case e es (t e.1) refl (passing es)

  none_case : (e : K × X) (es : List (K × X)) (b : Bool) → t e.1 ≡ b → filter (λ e. t e.1) (e ∷ es) ≡ []
      → (filter (λ e. t e.1) es ≡ [] → AllByRecursion (λ x. t x ≡ false) (values_of es))
      → AllByRecursion (λ x. t x ≡ false) (values_of (e ∷ es))
  none_case e es true h none rest = absurd (cc (h, none))
  none_case e es false h none rest = (h, rest (rw h at none))

  -- where none passes, all fail it
  pub none_passes : (es : List (K × X)) → filter (λ e. t e.1) es ≡ [] → AllByRecursion (λ x. t x ≡ false) (values_of es)
  none_passes [] none = tt
  none_passes (e ∷ es) none = none_case e es (t e.1) refl none (none_passes es)

  pub all_fail : (es : List (K × X)) → AllByRecursion (λ x. t x ≡ false) (values_of es) → filter (λ e. t e.1) es ≡ []
  all_fail [] a = refl
  all_fail (e ∷ es) a = rw a.0 (all_fail es a.1)
