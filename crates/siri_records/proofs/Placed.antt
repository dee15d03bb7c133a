-- What stands at a place.
use Rattle.std.proofs.Common.{◌≡◌, ℕ, suc, zero, ◌<◌, ◌≤◌, List, [], ◌∷◌, ◌++◌, length, get_or, drop, take, map, Some, None, slice_get, ◌+◌}
use Rattle.std.proofs.Common.{refl, ap, sym, subst, ◌∙◌, arith, add-one}
use Rattle.std.specs.Map.{keys_of}
use Rattle.std.specs.List.{AllByRecursion}
use Rattle.std.specs.List.Sorted.{IsStrictlySortedBy}
use Rattle.std.specs.Cmp.{IsTotalOrder, tied_itself}
use Rattle.std.specs.Ordering.{ordering_reverse}
use Rattle.std.specs.declared.cmp.Ordering.{Ordering}
use Rattle.std.specs.declared.cmp.Ordering.TheVariants.{Less}
use Rattle.siri_records.specs.declared.key.Key.{Key}
use Rattle.siri_records.specs.declared.item.Item.{Item}
use Rattle.siri_records.specs.Keyed.{InOrder, PlacedAt, entries_view}
use Rattle.siri_records.specs.Places.{IsHere}
use Rattle.siri_records.proofs.Edited.{Shared}

-- the keys don't depend on how the items are shared
pub keys_viewed : (es : List (Key × Shared)) → keys_of (entries_view es) ≡ keys_of es
keys_viewed [] = refl
keys_viewed (e ∷ es) = ap (λ l. e.0 ∷ l) (keys_viewed es)

pub length_viewed : (es : List (Key × Shared)) → length (entries_view es) ≡ length es
length_viewed [] = refl
length_viewed (e ∷ es) = ap suc (length_viewed es)

pub order_viewed : (es : List (Key × Shared)) → InOrder es → InOrder (entries_view es)
order_viewed es s = rw (keys_viewed es) s

-- an entry that was read
pub entry_at : (es : List (Key × Shared)) (i : ℕ) (e : Key × Shared) → i < length es → e ≡ get_or es i e → slice_get (entries_view es) i ≡ Some (e.0, e.1.value)
entry_at [] i e lt is = absurd (omega (arith, lt))
entry_at (x ∷ es) zero e lt is = ap (λ (y : Key × Shared). Some (y.0, y.1.value)) (sym is)
entry_at (x ∷ es) (suc i) e lt is = entry_at es i e (omega (arith, lt)) is

pub none_at : (es : List (Key × Shared)) (i : ℕ) → length es ≤ i → slice_get (entries_view es) i ≡ None
none_at [] i le = refl
none_at (x ∷ es) zero le = absurd (omega (arith, le))
none_at (x ∷ es) (suc i) le = none_at es i (omega (arith, le))

-- what is from the place of an element on begins with it
placed_here : {A B : Type 0} (f : A → B) (xs : List A) (i : ℕ) (x : A) → i < length xs → x ≡ get_or xs i x → drop i (map f xs) ≡ f x ∷ drop (suc i) (map f xs)
placed_here f [] i x lt is = absurd (omega (arith, lt))
placed_here f (y ∷ xs) zero x lt is = ap (λ z. f z ∷ map f xs) (sym is)
placed_here f (y ∷ xs) (suc i) x lt is = placed_here f xs i x (omega (arith, lt)) is

pub length_mapped : {A B : Type 0} (f : A → B) (xs : List A) → length (map f xs) ≡ length xs
length_mapped f [] = refl
length_mapped f (x ∷ xs) = ap suc (length_mapped f xs)

pub placed_at : {A B : Type 0} (f : A → B) (xs : List A) (i : ℕ) (x : A) → i < length xs → x ≡ get_or xs i x → PlacedAt (map f xs) i (Some (f x))
placed_at f xs i x lt is = (rw add-one (placed_here f xs i x lt is), omega (arith, lt, length_mapped f xs))

past_end : {A B : Type 0} (f : A → B) (xs : List A) (i : ℕ) → length xs ≤ i → drop i (map f xs) ≡ []
past_end f [] zero le = refl
past_end f [] (suc i) le = refl
past_end f (x ∷ xs) zero le = absurd (omega (arith, le))
past_end f (x ∷ xs) (suc i) le = past_end f xs i (omega (arith, le))

pub placed_none : {A B : Type 0} (f : A → B) (xs : List A) (i : ℕ) → length xs ≤ i → PlacedAt (map f xs) i None
placed_none f xs i le = (past_end f xs i le, omega (arith, le, length_mapped f xs))

-- ---- a place in order

all_at : {K X : Type 0} (P : K → Type 0) (es : List (K × X)) (i : ℕ) (e : K × X) → AllByRecursion P (keys_of es) → i < length es → e ≡ get_or es i e → P e.0
all_at P [] i e a lt is = absurd (omega (arith, lt))
all_at P (x ∷ es) zero e a lt is = subst (λ (y : _). P y.0) (sym is) a.0
all_at P (x ∷ es) (suc i) e a lt is = all_at P es i e a.1 (omega (arith, lt)) is

-- in order the key of a place stands there
pub here_at : {K X : Type 0} {cmp : K → K → Ordering} (total : IsTotalOrder cmp) (es : List (K × X)) (i : ℕ) (e : K × X)
    → IsStrictlySortedBy cmp (keys_of es) → i < length es → e ≡ get_or es i e → IsHere (cmp e.0) es i
unfolding IsStrictlySortedBy
here_at total [] i e s lt is = absurd (omega (arith, lt))
here_at {cmp = cmp} total (x ∷ es) zero e s lt is = ap (λ (y : _). cmp e.0 y.0) (sym is) ∙ tied_itself total e.0
here_at {cmp = cmp} total (x ∷ es) (suc i) e s lt is = (
  total.antisymm e.0 x.0 ∙ ap ordering_reverse (all_at (λ y. cmp x.0 y ≡ Less) es i e s.0 (omega (arith, lt)) is),
  here_at total es i e s.1 (omega (arith, lt)) is,
)

-- ---- more entries

-- an entry more at the end
pub viewed_append : (es fs : List (Key × Shared)) → entries_view (es ++ fs) ≡ entries_view es ++ entries_view fs
viewed_append [] fs = refl
viewed_append (e ∷ es) fs = ap (λ l. (e.0, e.1.value) ∷ l) (viewed_append es fs)

pub keys_append : {X : Type 0} (es : List (Key × X)) (e : Key × X) → keys_of (es ++ e ∷ []) ≡ keys_of es ++ e.0 ∷ []
keys_append [] e = refl
keys_append (x ∷ es) e = ap (λ l. x.0 ∷ l) (keys_append es e)

-- ---- of any list

pub below_length : {A : Type 0} (xs : List A) (i : ℕ) (x : A) → slice_get xs i ≡ Some x → i < length xs
below_length [] i x is = absurd (cc is)
below_length (y ∷ xs) zero x is = omega arith
below_length (y ∷ xs) (suc i) x is = omega (arith, below_length xs i x is)

drop_from : {A : Type 0} (xs : List A) (i : ℕ) (x : A) → slice_get xs i ≡ Some x → drop i xs ≡ x ∷ drop (suc i) xs
drop_from [] i x is = absurd (cc is)
drop_from (y ∷ xs) zero x is = cc
drop_from (y ∷ xs) (suc i) x is = drop_from xs i x is

-- what is at a place is the first of those from there on
pub drop_at : {A : Type 0} (xs : List A) (i : ℕ) (x : A) → slice_get xs i ≡ Some x → drop i xs ≡ x ∷ drop (i + 1) xs
drop_at xs i x is = rw add-one (drop_from xs i x is)

pub drop_past : {A : Type 0} (xs : List A) (i : ℕ) → slice_get xs i ≡ None → drop i xs ≡ []
drop_past [] zero is = refl
drop_past [] (suc i) is = refl
drop_past (y ∷ xs) zero is = absurd (cc is)
drop_past (y ∷ xs) (suc i) is = drop_past xs i is

take_to : {A : Type 0} (xs : List A) (i : ℕ) (x : A) → slice_get xs i ≡ Some x → take (suc i) xs ≡ take i xs ++ x ∷ []
take_to [] i x is = absurd (cc is)
take_to (y ∷ xs) zero x is = cc
take_to (y ∷ xs) (suc i) x is = ap (λ l. y ∷ l) (take_to xs i x is)

pub take_at : {A : Type 0} (xs : List A) (i : ℕ) (x : A) → slice_get xs i ≡ Some x → take (i + 1) xs ≡ take i xs ++ x ∷ []
take_at xs i x is = rw add-one (take_to xs i x is)

pub take_past : {A : Type 0} (xs : List A) (i : ℕ) → slice_get xs i ≡ None → take i xs ≡ xs
take_past [] zero is = refl
take_past [] (suc i) is = refl
take_past (y ∷ xs) zero is = absurd (cc is)
take_past (y ∷ xs) (suc i) is = ap (λ l. y ∷ l) (take_past xs i is)

pub take_whole : {A : Type 0} (xs : List A) (i : ℕ) → length xs ≤ i → take i xs ≡ xs
take_whole [] zero le = refl
take_whole [] (suc i) le = refl
take_whole (y ∷ xs) zero le = absurd (omega (arith, le))
take_whole (y ∷ xs) (suc i) le = ap (λ l. y ∷ l) (take_whole xs i (omega (arith, le)))

-- ---- a copy, entry by entry

pub copied_step : (es done more : List (Key × Shared)) (i : ℕ) (e copy : Key × Shared) → i < length es
    → e ≡ get_or es i e → (copy.0 ≡ e.0) × (copy.1.value ≡ e.1.value) → more ≡ done ++ copy ∷ []
    → entries_view done ≡ take i (entries_view es) → entries_view more ≡ take (i + 1) (entries_view es)
copied_step es done more i e copy lt is same one so_far =
    let pair : ◌≡◌ {A = Key × Item} (copy.0, copy.1.value) (e.0, e.1.value) = λ j. (same.0 j, same.1 j) in
    ap entries_view one ∙ (viewed_append done (copy ∷ [])
    ∙ (ap (λ l. l ++ (copy.0, copy.1.value) ∷ []) so_far
    ∙ (ap (λ (x : Key × Item). take i (entries_view es) ++ x ∷ []) pair
    ∙ sym (take_at (entries_view es) i (e.0, e.1.value) (entry_at es i e lt is)))))

pub copied_order : (es done : List (Key × Shared)) (i : ℕ) → length es ≤ i → entries_view done ≡ take i (entries_view es) → InOrder es → InOrder done
copied_order es done i le so_far s =
    let whole : entries_view done ≡ entries_view es = so_far ∙ take_whole (entries_view es) i (omega (arith, le, length_viewed es)) in
    let keys : keys_of done ≡ keys_of es = sym (keys_viewed done) ∙ (ap keys_of whole ∙ keys_viewed es) in
    rw keys s
