-- What is kept under keys in order, by the place at which a key stands.
use Rattle.std.proofs.Common.{◌≡◌, ℕ, suc, zero, ◌<◌, List, [], ◌∷◌, length, get_or, set, Some, Bool, refl, ap, arith}
use Rattle.std.specs.List.{insert, remove, AllByRecursion}
use Rattle.std.specs.List.Sorted.{IsStrictlySortedBy}
use Rattle.std.specs.Cmp.{IsTotalOrder}
use Rattle.std.proofs.lemmas.Map.{NonePasses}
use Rattle.std.specs.Map.{keys_of, lookup, remove_entry}
use Rattle.std.specs.BTreeMap.{insert_entry, is_at}
use Rattle.std.specs.Ordering.{is_eq}
use Rattle.std.specs.declared.cmp.Ordering.{Ordering}
use Rattle.std.specs.declared.cmp.Ordering.TheVariants.{Less}
use Rattle.siri_records.specs.Places.{IsHere, IsGap, set_value_at}

module _ {K X : Type 0} (cmp : K → K → Ordering) (k : K) where
  pub lookup_at : (es : List (K × X)) (i : ℕ) (d : K × X) → IsHere (cmp k) es i → lookup (is_at (cmp k)) es ≡ Some (get_or es i d).1
  lookup_at [] i d here = absurd here
  lookup_at (e ∷ es) zero d here = rw here
  lookup_at (e ∷ es) (suc i) d here = rw (here.0) (lookup_at es i d here.1)

  pub put_at : (es : List (K × X)) (i : ℕ) (x : X) → IsHere (cmp k) es i → set_value_at es i x ≡ insert_entry cmp es k x
  put_at [] i x here = absurd here
  put_at (e ∷ es) zero x here = rw here
  put_at (e ∷ es) (suc i) x here = rw (here.0) (ap (λ l. e ∷ l) (put_at es i x here.1))

  -- to put what is there changes nothing
  pub put_same : (es : List (K × X)) (i : ℕ) (e : K × X) → IsHere (cmp k) es i → i < length es → e ≡ get_or es i e → insert_entry cmp es k e.1 ≡ es
  put_same [] i e here lt is = absurd here
  put_same (f ∷ es) zero e here lt is = rw here (ap (λ (g : K × X). (f.0, g.1) ∷ es) is)
  put_same (f ∷ es) (suc i) e here lt is = rw (here.0) (ap (λ l. f ∷ l) (put_same es i e here.1 (omega (arith, lt)) is))

  pub put_in : (es : List (K × X)) (i : ℕ) (x : X) → IsGap (cmp k) es i → insert es i (k, x) ≡ insert_entry cmp es k x
  put_in [] zero x gap = refl
  put_in [] (suc i) x gap = absurd gap
  put_in (e ∷ es) zero x gap = rw gap
  put_in (e ∷ es) (suc i) x gap = rw (gap.0) (ap (λ l. e ∷ l) (put_in es i x gap.1))

  pub remove_at : (es : List (K × X)) (i : ℕ) → IsHere (cmp k) es i → remove es i ≡ remove_entry (is_at (cmp k)) es
  remove_at [] i here = absurd here
  remove_at (e ∷ es) zero here = rw here
  remove_at (e ∷ es) (suc i) here = rw (here.0) (ap (λ l. e ∷ l) (remove_at es i here.1))

  none_later : (es : List (K × X)) → AllByRecursion (λ y. cmp k y ≡ Less) (keys_of es) → NonePasses (is_at (cmp k)) es
  none_later [] a = tt
  none_later (e ∷ es) a = (ap is_eq a.0, none_later es a.1)

all_mapped : {K : Type 0} (P Q : K → Type 0) (ks : List K) → ((y : K) → P y → Q y) → AllByRecursion P ks → AllByRecursion Q ks
all_mapped P Q [] f a = tt
all_mapped P Q (y ∷ ks) f a = (f y a.0, all_mapped P Q ks f a.1)

-- below the first key none is held
pub none_here : {K X : Type 0} {cmp : K → K → Ordering} (total : IsTotalOrder cmp) (k : K) (e : K × X)
    (es : List (K × X)) → IsStrictlySortedBy cmp (keys_of (e ∷ es)) → cmp k e.0 ≡ Less → NonePasses (is_at (cmp k)) es
unfolding IsStrictlySortedBy
none_here {cmp = cmp} total k e es ordered less = none_later cmp k es
    (all_mapped (λ y. cmp e.0 y ≡ Less) (λ y. cmp k y ≡ Less) (keys_of es)
    (λ y more. total.trans k e.0 y less more) ordered.0)

-- a key that has a gap is not held
pub none_at : {K X : Type 0} {cmp : K → K → Ordering} (total : IsTotalOrder cmp) (k : K) (es : List (K × X)) (i : ℕ)
    → IsStrictlySortedBy cmp (keys_of es) → IsGap (cmp k) es i → NonePasses (is_at (cmp k)) es
unfolding IsStrictlySortedBy
none_at total k [] i s gap = tt
none_at {cmp = cmp} total k (e ∷ es) zero s gap = (
  ap is_eq gap,
  none_later cmp k es (all_mapped (λ y. cmp e.0 y ≡ Less) (λ y. cmp k y ≡ Less) (keys_of es)
      (λ y h. total.trans k e.0 y gap h) s.0),
)
none_at total k (e ∷ es) (suc i) s gap = (ap is_eq gap.0, none_at total k es i s.1 gap.1)

pub remove_none : {K X : Type 0} (test : K → Bool) (es : List (K × X)) → NonePasses test es → remove_entry test es ≡ es
remove_none test [] none = refl
remove_none test (e ∷ es) none = rw (none.0) (ap (λ l. e ∷ l) (remove_none test es none.1))

-- a write of one value
pub set_is : {K X : Type 0} (es : List (K × X)) (i : ℕ) (e : K × X) (x : X) → i < length es → e ≡ get_or es i e → set es i (e.0, x) ≡ set_value_at es i x
set_is [] i e x lt is = absurd (omega (arith, lt))
set_is (f ∷ es) zero e x lt is = ap (λ (g : _). (g.0, x) ∷ es) is
set_is (f ∷ es) (suc i) e x lt is = ap (λ l. f ∷ l) (set_is es i e x (omega (arith, lt)) is)
