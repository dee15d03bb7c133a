-- Entries stay in order when one more is put among them; and they are known by what is found in them.
use Rattle.std.proofs.Common.{◌≡◌, false, cond, List, [], ◌∷◌, Some, None, refl, ap, sym, ◌∙◌}
use Rattle.std.specs.BTreeMap.{insert_entry, is_at}
use Rattle.std.specs.Cmp.{IsTotalOrder, Equal-is, tied_itself}
use Rattle.std.proofs.lemmas.Map.{lookup-none}
use Rattle.siri_store.proofs.LookUps.{by_bool, by_ordering, later_apart}
use Rattle.std.specs.List.{AllByRecursion}
use Rattle.std.specs.List.Sorted.{IsStrictlySortedBy}
use Rattle.std.specs.Map.{keys_of, lookup}
use Rattle.std.specs.Ordering.{ordering_reverse, is_eq}
use Rattle.std.specs.declared.cmp.Ordering.{Ordering}
use Rattle.std.specs.declared.cmp.Ordering.TheVariants.{Less, Equal, Greater}

module _ {K X : Type 0} {R : K → K → Ordering} (total : IsTotalOrder R) where
  abbrev Below : K → List (K × X) → Type 0
  Below k es = AllByRecursion (λ y. R k y ≡ Less) (keys_of es)

  below_less : (k j : K) (es : List (K × X)) → R k j ≡ Less → Below j es → Below k es
  below_less k j [] less below = tt
  below_less k j (e ∷ es) less below = (total.trans k j e.0 less below.0, below_less k j es less below.1)

  inserted_at : (j k : K) (v : X) (e : K × X) (es : List (K × X)) (o : Ordering) → R k e.0 ≡ o → R j k ≡ Less
      → Below j (e ∷ es) → Below j (insert_entry R es k v) → Below j (insert_entry R (e ∷ es) k v)
  inserted_at j k v e es Less h less below rest = rw h (less, below)
  inserted_at j k v e es Equal h less below rest = rw h below
  inserted_at j k v e es Greater h less below rest = rw h (below.0, rest)

  inserted : (j k : K) (v : X) (es : List (K × X)) → R j k ≡ Less → Below j es → Below j (insert_entry R es k v)
  inserted j k v [] less below = (less, tt)
  inserted j k v (e ∷ es) less below = inserted_at j k v e es (R k e.0) refl less below (inserted j k v es less below.1)

  sorted_at : (k : K) (v : X) (e : K × X) (es : List (K × X)) (o : Ordering) → R k e.0 ≡ o
      → IsStrictlySortedBy R (keys_of (e ∷ es)) → IsStrictlySortedBy R (keys_of (insert_entry R es k v))
      → IsStrictlySortedBy R (keys_of (insert_entry R (e ∷ es) k v))
  unfolding IsStrictlySortedBy
  sorted_at k v e es Less h s rest = rw h ((h, below_less k e.0 es h s.0), s)
  sorted_at k v e es Equal h s rest = rw h s
  sorted_at k v e es Greater h s rest =
      rw h (inserted e.0 k v es (total.antisymm e.0 k ∙ ap ordering_reverse h) s.0, rest)

  pub sorted_inserted : (k : K) (v : X) (es : List (K × X)) → IsStrictlySortedBy R (keys_of es)
      → IsStrictlySortedBy R (keys_of (insert_entry R es k v))
  unfolding IsStrictlySortedBy
  sorted_inserted k v [] s = (tt, tt)
  sorted_inserted k v (e ∷ es) s = sorted_at k v e es (R k e.0) refl s (sorted_inserted k v es s.1)

-- ---- entries in order by which the same is found are the same

module _ {K X : Type 0} {R : K → K → Ordering} (total : IsTotalOrder R)
    (exact : (x y : K) → R x y ≡ Equal → x ≡ y) where
  absent_below : (q : K) (es : List (K × X)) → AllByRecursion (λ y. R q y ≡ Less) (keys_of es)
      → lookup (is_at (R q)) es ≡ None
  absent_below q [] a = refl
  absent_below q (e ∷ es) a = ap (λ o. cond (is_eq o) (Some e.1) (lookup (is_at (R q)) es)) a.0 ∙ absent_below q es a.1

  first_found : (q : K) (e : K × X) (es : List (K × X)) → R q e.0 ≡ Equal → lookup (is_at (R q)) (e ∷ es) ≡ Some e.1
  first_found q e es tie = ap (λ o. cond (is_eq o) (Some e.1) (lookup (is_at (R q)) es)) tie

  not_first : (q : K) (e : K × X) (es : List (K × X)) → is_eq (R q e.0) ≡ false
      → lookup (is_at (R q)) (e ∷ es) ≡ lookup (is_at (R q)) es
  not_first q e es apart = ap (λ b. cond b (Some e.1) (lookup (is_at (R q)) es)) apart

  some_none : (x : X) → Some x ≡ None → ⊥
  some_none x is = cc

  same_value : (x y : X) → Some x ≡ Some y → x ≡ y
  same_value x y is = cc

  absurd_below : (e f : K × X) (es fs : List (K × X)) → R e.0 f.0 ≡ Less
      → AllByRecursion (λ y. R f.0 y ≡ Less) (keys_of fs)
      → ((q : K) → lookup (is_at (R q)) (e ∷ es) ≡ lookup (is_at (R q)) (f ∷ fs)) → ⊥
  absurd_below e f es fs less below h =
      some_none e.1
      (sym (first_found e.0 e es (tied_itself total e.0))
      ∙ (h e.0 ∙ absent_below e.0 (f ∷ fs) (less, below_less total e.0 f.0 fs less below)))

  tails : (e f : K × X) (es fs : List (K × X)) → e.0 ≡ f.0 → AllByRecursion (λ y. R e.0 y ≡ Less) (keys_of es)
      → AllByRecursion (λ y. R f.0 y ≡ Less) (keys_of fs)
      → ((q : K) → lookup (is_at (R q)) (e ∷ es) ≡ lookup (is_at (R q)) (f ∷ fs)) → (q : K)
      → lookup (is_at (R q)) es ≡ lookup (is_at (R q)) fs
  tails e f es fs key a b h q = by_bool (is_eq (R q e.0))
      (λ tie. let at = (Equal-is (R q e.0)).0 tie in
      lookup-none (is_at (R q)) es (later_apart total q e es at a)
      ∙ sym (lookup-none (is_at (R q)) fs (later_apart total q f fs (ap (R q) (sym key) ∙ at) b)))
      (λ apart. sym (not_first q e es apart) ∙ (h q ∙ not_first q f fs (ap (λ k. is_eq (R q k)) (sym key) ∙ apart)))

  pub same_entries : (es fs : List (K × X)) → IsStrictlySortedBy R (keys_of es) → IsStrictlySortedBy R (keys_of fs)
      → ((q : K) → lookup (is_at (R q)) es ≡ lookup (is_at (R q)) fs) → es ≡ fs
  unfolding IsStrictlySortedBy
  same_entries [] [] s t h = refl
  same_entries [] (f ∷ fs) s t h =
      absurd (some_none f.1 (sym (first_found f.0 f fs (tied_itself total f.0)) ∙ sym (h f.0)))
  same_entries (e ∷ es) [] s t h = absurd (some_none e.1 (sym (first_found e.0 e es (tied_itself total e.0)) ∙ h e.0))
  same_entries (e ∷ es) (f ∷ fs) s t h = by_ordering (R e.0 f.0)
      (λ less. absurd (absurd_below e f es fs less t.0 h))
      (λ tie.
      let key = exact e.0 f.0 tie in
      let its =
      same_value e.1 f.1 (sym (first_found e.0 e es (tied_itself total e.0)) ∙ (h e.0 ∙ first_found e.0 f fs tie)) in
      let rest = same_entries es fs s.1 t.1 (tails e f es fs key s.0 t.0 h) in
      λ i. (key i, its i) ∷ rest i)
      (λ greater. absurd
      (absurd_below f e fs es (total.antisymm f.0 e.0 ∙ ap ordering_reverse greater) s.0 (λ q. sym (h q))))
