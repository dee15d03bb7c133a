-- Visits in order of entry and then key: which they are, and that they are in order.
use Rattle.std.proofs.Common.{◌≡◌, ℕ, ◌+◌, Bool, true, false, cond, ◌&&◌, List, [], ◌∷◌, map, filter, fold, length, Option, Some, None}
use Rattle.std.proofs.Common.{refl, ap, ◌∙◌, sym, subst, arith}
use Rattle.std.specs.Prelude.{ℤ}
use Rattle.std.specs.BTreeMap.{insert_entry}
use Rattle.std.specs.Cmp.{tied_itself}
use Rattle.std.specs.List.{AllByRecursion}
use Rattle.std.specs.List.Sorted.{IsStrictlySortedBy}
use Rattle.std.specs.Map.{keys_of}
use Rattle.std.specs.Option.{option_map_or, option_cmp}
use Rattle.std.specs.Ordering.{nat_cmp, is_eq, ordering_reverse, ordering_then}
use Rattle.std.specs.declared.cmp.Ordering.{Ordering}
use Rattle.std.specs.declared.cmp.Ordering.TheVariants.{Less, Equal, Greater}
use Rattle.siri_records.specs.declared.item.Item.{Item}
use Rattle.siri_records.specs.declared.item.Service.TheVariants as service
use Rattle.siri_records.specs.declared.key.Key.{Key}
use Rattle.siri_records.specs.Ends.{entry_of}
use Rattle.siri_records.specs.Keyed.{Items, InOrder}
use Rattle.siri_records.specs.Order.{key_cmp, key_cmp_total}
use Rattle.siri_records.proofs.Kept.{sorted_kept}
use Rattle.siri_topic.specs.declared.windows.Window.{Window}
use Rattle.siri_topic.specs.Shown.{is_before, is_from}
use Rattle.siri_model.specs.Direct.{soonest_cmp}
use Rattle.siri_store.specs.Crossing.{edge_cmp}
use Rattle.siri_store.specs.First.{enters, visits_by_entry}
use Rattle.siri_store.proofs.Crossed.{Edged, edge_exact, sorted_fold}
use Rattle.siri_store.proofs.Firsts.{entry_at}
use Rattle.siri_store.proofs.LookUps.{by_bool}
use Rattle.siri_records.specs.Services.{is_of}

-- ---- how many pass a test

abbrev pub passing : {X : Type 0} → (X → Bool) → List X → ℕ
passing t xs = length (filter t xs)

pub passing_cons : {X : Type 0} (t : X → Bool) (x : X) (xs : List X) → passing t (x ∷ xs) ≡ cond (t x) 1 0 + passing t xs
passing_cons t x xs = by_bool (t x) (λ h. rw h (omega arith)) (λ h. rw h (omega arith))

-- ---- one more is put among them

-- a key is none of these
abbrev Fresh : Key → Edged → Type 0
Fresh key xs = AllByRecursion (λ f. is_eq (key_cmp key f.0.1) ≡ false) xs

module _ (m : ℕ) (key : Key) (i : Item) where
  abbrev one : (ℕ × Key) × Item
  one = ((m, key), i)

  unlike : (f : (ℕ × Key) × Item) → is_eq (key_cmp key f.0.1) ≡ false → edge_cmp (m, key) f.0 ≡ Equal → ⊥
  unlike f apart h =
      let same : key ≡ f.0.1 = ap (λ (x : ℕ × Key). x.1) (edge_exact (m, key) f.0 h) in
      cc (sym (ap is_eq (tied_itself key_cmp_total key)) ∙ (ap (λ k. is_eq (key_cmp key k)) same ∙ apart))

  put_case : (t : (ℕ × Key) × Item → Bool) (f : (ℕ × Key) × Item) (xs : Edged) (o : Ordering) → edge_cmp (m, key) f.0 ≡ o
      → (o ≡ Equal → ⊥) → passing t (insert_entry edge_cmp xs (m, key) i) ≡ cond (t one) 1 0 + passing t xs
      → passing t (insert_entry edge_cmp (f ∷ xs) (m, key) i) ≡ cond (t one) 1 0 + passing t (f ∷ xs)
  put_case t f xs Less h apart rest = rw h (passing_cons t one (f ∷ xs))
  put_case t f xs Equal h apart rest = absurd (apart refl)
  put_case t f xs Greater h apart rest =
      rw h (passing_cons t f (insert_entry edge_cmp xs (m, key) i) ∙ omega (arith, rest, passing_cons t f xs))

  put_passing : (t : (ℕ × Key) × Item → Bool) (xs : Edged) → Fresh key xs
      → passing t (insert_entry edge_cmp xs (m, key) i) ≡ cond (t one) 1 0 + passing t xs
  put_passing t [] fresh = passing_cons t one []
  put_passing t (f ∷ xs) fresh =
      put_case t f xs (edge_cmp (m, key) f.0) refl (unlike f fresh.0) (put_passing t xs fresh.1)

  all_case : (P : (ℕ × Key) × Item → Type 0) (f : (ℕ × Key) × Item) (xs : Edged) (o : Ordering) → edge_cmp (m, key) f.0 ≡ o
      → P one → P f → AllByRecursion P xs → AllByRecursion P (insert_entry edge_cmp xs (m, key) i)
      → AllByRecursion P (insert_entry edge_cmp (f ∷ xs) (m, key) i)
  all_case P f xs Less h here first others rest = rw h (here, (first, others))
  all_case P f xs Equal h here first others rest =
      rw h (subst (λ (x : ℕ × Key). P (x, i)) (edge_exact (m, key) f.0 h) here, others)
  all_case P f xs Greater h here first others rest = rw h (first, rest)

  put_all : (P : (ℕ × Key) × Item → Type 0) (xs : Edged) → P one → AllByRecursion P xs
      → AllByRecursion P (insert_entry edge_cmp xs (m, key) i)
  put_all P [] here all = (here, tt)
  put_all P (f ∷ xs) here all =
      all_case P f xs (edge_cmp (m, key) f.0) refl here all.0 all.1 (put_all P xs here all.1)

-- ---- and one after the other

abbrev put : Edged → Key × Item → Edged
put found e = insert_entry edge_cmp found (entry_at e.1, e.0) e.1

after : (e x : Key × Item) → key_cmp e.0 x.0 ≡ Less → is_eq (key_cmp x.0 e.0) ≡ false
after e x less = ap is_eq (key_cmp_total.antisymm x.0 e.0 ∙ ap ordering_reverse less)

still_fresh : (found : Edged) (e : Key × Item) (es : Items) → AllByRecursion (λ y. key_cmp e.0 y ≡ Less) (keys_of es)
    → AllByRecursion (λ (x : Key × Item). Fresh x.0 found) es → AllByRecursion (λ (x : Key × Item). Fresh x.0 (put found e)) es
still_fresh found e [] above fresh = tt
still_fresh found e (x ∷ es) above fresh = (
  put_all (entry_at e.1) e.0 e.1 (λ f. is_eq (key_cmp x.0 f.0.1) ≡ false) found (after e x above.0) fresh.0,
  still_fresh found e es above.1 fresh.1,
)

none_fresh : (es : Items) → AllByRecursion (λ (x : Key × Item). Fresh x.0 []) es
none_fresh [] = tt
none_fresh (e ∷ es) = (tt, none_fresh es)

fold_passing : (t : (ℕ × Key) × Item → Bool) (es : Items) (found : Edged) → InOrder es
    → AllByRecursion (λ (x : Key × Item). Fresh x.0 found) es
    → passing t (fold put found es) ≡ passing t found + passing (λ e. t ((entry_at e.1, e.0), e.1)) es
unfolding IsStrictlySortedBy
fold_passing t [] found s fresh = omega arith
fold_passing t (e ∷ es) found s fresh =
    let rest = fold_passing t es (put found e) s.1 (still_fresh found e es s.0 fresh.1) in
    let here = put_passing (entry_at e.1) e.0 e.1 t found fresh.0 in
    rest ∙ omega (arith, here, passing_cons (λ (x : Key × Item). t ((entry_at x.1, x.0), x.1)) e es)

fold_all : (P : (ℕ × Key) × Item → Type 0) (es : Items) (found : Edged) → AllByRecursion P found
    → AllByRecursion (λ (e : Key × Item). P ((entry_at e.1, e.0), e.1)) es → AllByRecursion P (fold put found es)
fold_all P [] found all more = all
fold_all P (e ∷ es) found all more = fold_all P es (put found e) (put_all (entry_at e.1) e.0 e.1 P found more.0 all) more.1

-- ---- without their moments

abbrev entry_in : (ℕ × Key) × Item → Key × Item
entry_in f = (f.0.1, f.1)

map_passing : (t : Key × Item → Bool) (xs : Edged) → passing t (map entry_in xs) ≡ passing (λ f. t (entry_in f)) xs
map_passing t [] = refl
map_passing t (f ∷ xs) =
    passing_cons t (entry_in f) (map entry_in xs) ∙ omega (arith, map_passing t xs, passing_cons (λ x. t (entry_in x)) f xs)

map_all : (P : Key × Item → Type 0) (xs : Edged) → AllByRecursion (λ f. P (entry_in f)) xs → AllByRecursion P (map entry_in xs)
map_all P [] all = tt
map_all P (f ∷ xs) all = (all.0, map_all P xs all.1)

-- each stands at its entry
abbrev AtEntry : (ℕ × Key) × Item → Type 0
AtEntry f = entry_of f.1 ≡ Some f.0.0

soonest_edge : (f h : (ℕ × Key) × Item) → AtEntry f → AtEntry h → soonest_cmp (entry_in f) (entry_in h) ≡ edge_cmp f.0 h.0
soonest_edge f h a b = λ i. ordering_then (option_cmp nat_cmp (a i) (b i)) (key_cmp f.0.1 h.0.1)

map_above : (f : (ℕ × Key) × Item) (xs : Edged) → AtEntry f → AllByRecursion AtEntry xs
    → AllByRecursion (λ y. edge_cmp f.0 y ≡ Less) (keys_of xs)
    → AllByRecursion (λ y. soonest_cmp (entry_in f) y ≡ Less) (map entry_in xs)
map_above f [] here all above = tt
map_above f (h ∷ xs) here all above = (soonest_edge f h here all.0 ∙ above.0, map_above f xs here all.1 above.1)

map_sorted : (xs : Edged) → AllByRecursion AtEntry xs → IsStrictlySortedBy edge_cmp (keys_of xs)
    → IsStrictlySortedBy soonest_cmp (map entry_in xs)
unfolding IsStrictlySortedBy
map_sorted [] all s = tt
map_sorted (f ∷ xs) all s = (map_above f xs all.0 all.1 s.0, map_sorted xs all.1 s.1)

-- ---- visits

none_plus : (n : ℕ) → 0 + n ≡ n
none_plus n = omega arith

module _ (p : Item → Bool) (es : Items) (s : InOrder es) where
  abbrev those : Items
  those = filter (λ e. is_of service.Stop e.1 && p e.1) es

  those_ordered : InOrder those
  those_ordered = sorted_kept (λ (e : Key × Item). is_of service.Stop e.1 && p e.1) key_cmp es s

  -- as many pass a test as of those in order of key
  pub visits_passing : (t : Key × Item → Bool) → passing t (visits_by_entry p es) ≡ passing t those
  visits_passing t =
      map_passing t (fold put [] those)
      ∙ (fold_passing (λ f. t (entry_in f)) those [] those_ordered (none_fresh those) ∙ none_plus (passing t those))

  pub visits_all : (P : Key × Item → Type 0) → AllByRecursion P those → AllByRecursion P (visits_by_entry p es)
  visits_all P all = map_all P (fold put [] those) (fold_all (λ f. P (entry_in f)) those [] tt all)

some_entry : (from : ℤ) (entry : Option ℕ) → is_from from entry ≡ true → entry ≡ Some (option_map_or (λ moment. moment) entry 0)
some_entry from None is = absurd (cc is)
some_entry from (Some m) is = refl

left_true : (a b : Bool) → (a && b) ≡ true → a ≡ true
left_true true b h = refl
left_true false b h = absurd (cc h)

right_true : (a b : Bool) → (a && b) ≡ true → b ≡ true
right_true true b h = h
right_true false b h = absurd (cc h)

all_that_pass : (t : Key × Item → Bool) (P : Key × Item → Type 0) → ((e : Key × Item) → t e ≡ true → P e) → (es : Items)
    → AllByRecursion P (filter t es)
all_that_pass t P holds [] = tt
all_that_pass t P holds (e ∷ es) = by_bool (t e)
    (λ h. rw h (holds e h, all_that_pass t P holds es))
    (λ h. rw h (all_that_pass t P holds es))

-- those of a window are in order of call moment and key
pub visits_sorted : (window : Window) (es : Items) → InOrder es → IsStrictlySortedBy soonest_cmp (visits_by_entry (enters window) es)
unfolding IsStrictlySortedBy
visits_sorted window es s =
    let t : Key × Item → Bool = λ e. is_of service.Stop e.1 && enters window e.1 in
    map_sorted (fold put [] (filter t es))
    (fold_all AtEntry (filter t es) [] tt
    (all_that_pass t (λ e. entry_of e.1 ≡ Some (entry_at e.1))
    (λ e h. some_entry window.from (entry_of e.1)
    (left_true (is_from window.from (entry_of e.1)) (is_before window.to (entry_of e.1))
    (right_true (is_of service.Stop e.1) (enters window e.1) h))) es))
    (sorted_fold (λ i. is_of service.Stop i && enters window i) entry_at [] (filter t es) tt)
