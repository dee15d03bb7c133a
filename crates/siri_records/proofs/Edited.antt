-- What an edit at a place does to the entries.
use Rattle.std.proofs.Common.{◌≡◌, ℕ, suc, zero, ◌<◌, ◌≤◌, List, [], ◌∷◌, length, get_or, set, Some, Bool, refl, ap, ◌∙◌, arith}
use Rattle.std.specs.List.{insert, remove, AllByRecursion}
use Rattle.std.specs.List.Sorted.{IsStrictlySortedBy}
use Rattle.std.specs.Cmp.{IsTotalOrder}
use Rattle.std.proofs.lemmas.Map.{NonePasses}
use Rattle.std.specs.Map.{keys_of, lookup, remove_entry}
use Rattle.std.specs.BTreeMap.{insert_entry, is_at}
use Rattle.std.specs.Ordering.{is_eq, ordering_reverse}
use Rattle.std.specs.declared.cmp.Ordering.{Ordering}
use Rattle.std.specs.declared.cmp.Ordering.TheVariants.{Less, Equal}
use Rattle.std.specs.declared.rc.Rc.{Rc}
use Rattle.std.specs.declared.alloc.Global.{Global}
use Rattle.siri_records.specs.declared.key.Key.{Key}
use Rattle.siri_records.specs.declared.item.Item.{Item}
use Rattle.siri_records.specs.Keyed.{entries_view}
use Rattle.siri_records.specs.Places.{IsHere, IsGap, set_value_at}

abbrev pub Shared : Type 0
Shared = Rc Item Global

module _ (cmp : Key → Key → Ordering) (k : Key) where
  pub put_here : (es : List (Key × Shared)) (i : ℕ) (item : Shared) → IsHere (cmp k) es i
      → entries_view (set_value_at es i item) ≡ insert_entry cmp (entries_view es) k item.value
  put_here [] i item here = absurd here
  put_here (e ∷ es) zero item here = rw here
  put_here (e ∷ es) (suc i) item here = rw (here.0) (ap (λ l. (e.0, e.1.value) ∷ l) (put_here es i item here.1))

  pub put_gap : (es : List (Key × Shared)) (i : ℕ) (item : Shared) → IsGap (cmp k) es i
      → entries_view (insert es i (k, item)) ≡ insert_entry cmp (entries_view es) k item.value
  put_gap [] zero item gap = refl
  put_gap [] (suc i) item gap = absurd gap
  put_gap (e ∷ es) zero item gap = rw gap
  put_gap (e ∷ es) (suc i) item gap = rw (gap.0) (ap (λ l. (e.0, e.1.value) ∷ l) (put_gap es i item gap.1))

  pub remove_here : (es : List (Key × Shared)) (i : ℕ) → IsHere (cmp k) es i → entries_view (remove es i) ≡ remove_entry (is_at (cmp k)) (entries_view es)
  remove_here [] i here = absurd here
  remove_here (e ∷ es) zero here = rw here
  remove_here (e ∷ es) (suc i) here = rw (here.0) (ap (λ l. (e.0, e.1.value) ∷ l) (remove_here es i here.1))

  pub lookup_here : (es : List (Key × Shared)) (i : ℕ) (d : Key × Shared) → IsHere (cmp k) es i
      → lookup (is_at (cmp k)) (entries_view es) ≡ Some (get_or es i d).1.value
  lookup_here [] i d here = absurd here
  lookup_here (e ∷ es) zero d here = rw here
  lookup_here (e ∷ es) (suc i) d here = rw (here.0) (lookup_here es i d here.1)

  -- the key there ties with the one that was looked for
  pub here_key : (es : List (Key × Shared)) (i : ℕ) (d : Key × Shared) → IsHere (cmp k) es i → cmp k (get_or es i d).0 ≡ Equal
  here_key [] i d here = absurd here
  here_key (e ∷ es) zero d here = here
  here_key (e ∷ es) (suc i) d here = here_key es i d here.1

-- ---- where a place is, and that the keys stay in order

pub here_below : {K X : Type 0} (query : K → Ordering) (es : List (K × X)) (i : ℕ) → IsHere query es i → i < length es
here_below query [] i here = absurd here
here_below query (e ∷ es) zero here = omega arith
here_below query (e ∷ es) (suc i) here = omega (arith, here_below query es i here.1)

pub gap_within : {K X : Type 0} (query : K → Ordering) (es : List (K × X)) (i : ℕ) → IsGap query es i → i ≤ length es
gap_within query [] zero gap = omega arith
gap_within query [] (suc i) gap = absurd gap
gap_within query (e ∷ es) zero gap = omega arith
gap_within query (e ∷ es) (suc i) gap = omega (arith, gap_within query es i gap.1)

pub keys_set : {K X : Type 0} (es : List (K × X)) (i : ℕ) (x : X) → keys_of (set_value_at es i x) ≡ keys_of es
keys_set [] i x = refl
keys_set (e ∷ es) zero x = refl
keys_set (e ∷ es) (suc i) x = ap (λ l. e.0 ∷ l) (keys_set es i x)

-- a write of one value
pub set_is : {K X : Type 0} (es : List (K × X)) (i : ℕ) (e : K × X) (x : X) → i < length es → e ≡ get_or es i e → set es i (e.0, x) ≡ set_value_at es i x
set_is [] i e x lt is = absurd (omega (arith, lt))
set_is (f ∷ es) zero e x lt is = ap (λ (g : _). (g.0, x) ∷ es) is
set_is (f ∷ es) (suc i) e x lt is = ap (λ l. f ∷ l) (set_is es i e x (omega (arith, lt)) is)

all_removed : {K X : Type 0} (P : K → Type 0) (es : List (K × X)) (i : ℕ) → AllByRecursion P (keys_of es) → AllByRecursion P (keys_of (remove es i))
all_removed P [] zero a = tt
all_removed P [] (suc i) a = tt
all_removed P (e ∷ es) zero a = a.1
all_removed P (e ∷ es) (suc i) a = (a.0, all_removed P es i a.1)

pub sorted_remove : {K X : Type 0} (cmp : K → K → Ordering) (es : List (K × X)) (i : ℕ)
    → IsStrictlySortedBy cmp (keys_of es) → IsStrictlySortedBy cmp (keys_of (remove es i))
unfolding IsStrictlySortedBy
sorted_remove cmp [] zero s = tt
sorted_remove cmp [] (suc i) s = tt
sorted_remove cmp (e ∷ es) zero s = s.1
sorted_remove cmp (e ∷ es) (suc i) s = (all_removed (λ y. cmp e.0 y ≡ Less) es i s.0, sorted_remove cmp es i s.1)

all_inserted : {K X : Type 0} (P : K → Type 0) (es : List (K × X)) (i : ℕ) (k : K) (x : X) → P k
    → AllByRecursion P (keys_of es) → AllByRecursion P (keys_of (insert es i (k, x)))
all_inserted P es zero k x p a = (p, a)
all_inserted P [] (suc i) k x p a = (p, tt)
all_inserted P (e ∷ es) (suc i) k x p a = (a.0, all_inserted P es i k x p a.1)

all_mapped : {K : Type 0} (P Q : K → Type 0) (ks : List K) → ((y : K) → P y → Q y) → AllByRecursion P ks → AllByRecursion Q ks
all_mapped P Q [] f a = tt
all_mapped P Q (y ∷ ks) f a = (f y a.0, all_mapped P Q ks f a.1)

pub sorted_gap : {K X : Type 0} {cmp : K → K → Ordering} (total : IsTotalOrder cmp) (k : K) (x : X) (es : List (K × X))
    (i : ℕ) → IsStrictlySortedBy cmp (keys_of es) → IsGap (cmp k) es i
    → IsStrictlySortedBy cmp (keys_of (insert es i (k, x)))
unfolding IsStrictlySortedBy
sorted_gap total k x [] zero s gap = (tt, tt)
sorted_gap total k x [] (suc i) s gap = absurd gap
sorted_gap {cmp = cmp} total k x (e ∷ es) zero s gap = (
  (
    gap,
    all_mapped (λ y. cmp e.0 y ≡ Less) (λ y. cmp k y ≡ Less) (keys_of es)
        (λ y h. total.trans k e.0 y gap h) s.0,
  ),
  s,
)
sorted_gap {cmp = cmp} total k x (e ∷ es) (suc i) s gap = (
  all_inserted (λ y. cmp e.0 y ≡ Less) es i k x (total.antisymm e.0 k ∙ ap ordering_reverse gap.0) s.0,
  sorted_gap total k x es i s.1 gap.1,
)

-- ---- a key that has a gap is not held

none_later : (cmp : Key → Key → Ordering) (k : Key) (es : List (Key × Shared))
    → AllByRecursion (λ y. cmp k y ≡ Less) (keys_of es) → NonePasses (is_at (cmp k)) (entries_view es)
none_later cmp k [] a = tt
none_later cmp k (e ∷ es) a = (ap is_eq a.0, none_later cmp k es a.1)

pub none_held : {cmp : Key → Key → Ordering} (total : IsTotalOrder cmp) (k : Key) (es : List (Key × Shared)) (i : ℕ)
    → IsStrictlySortedBy cmp (keys_of es) → IsGap (cmp k) es i → NonePasses (is_at (cmp k)) (entries_view es)
unfolding IsStrictlySortedBy
none_held total k [] i s gap = tt
none_held {cmp = cmp} total k (e ∷ es) zero s gap = (
  ap is_eq gap,
  none_later cmp k es (all_mapped (λ y. cmp e.0 y ≡ Less) (λ y. cmp k y ≡ Less) (keys_of es)
      (λ y h. total.trans k e.0 y gap h) s.0),
)
none_held total k (e ∷ es) (suc i) s gap = (ap is_eq gap.0, none_held total k es i s.1 gap.1)

pub remove_none : (test : Key → Bool) (es : List (Key × Item)) → NonePasses test es → remove_entry test es ≡ es
remove_none test [] none = refl
remove_none test (e ∷ es) none = rw (none.0) (ap (λ l. e ∷ l) (remove_none test es none.1))
