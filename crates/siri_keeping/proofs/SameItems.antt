-- Entries in order of key that have the same value of each key are one list.
use Rattle.std.proofs.Common.{◌≡◌, List, [], ◌∷◌, false, Option, None, Some, refl, ap, sym, ◌∙◌, subst}
use Rattle.std.specs.BTreeMap.{is_at}
use Rattle.std.specs.Cmp.{IsTotalOrder, tied_itself}
use Rattle.std.specs.List.{AllByRecursion as All}
use Rattle.std.specs.List.Sorted.{IsStrictlySortedBy}
use Rattle.std.specs.Map.{keys_of, lookup}
use Rattle.std.specs.Ordering.{is_eq, ordering_reverse}
use Rattle.std.specs.declared.cmp.Ordering.{Ordering}
use Rattle.std.specs.declared.cmp.Ordering.TheVariants.{Less, Equal, Greater}
use Rattle.std.proofs.lemmas.Option.{none-some, same_Some}
use Rattle.siri_records.specs.declared.key.Key.{Key}
use Rattle.siri_records.specs.Keyed.{InOrder, Items, item_of}
use Rattle.siri_records.specs.Order.{key_cmp_total}
use Rattle.siri_records.proofs.Order.{key_cmp_exact}

some_apart : {X : Type 0} (x : X) (o : Option X) → o ≡ None → Some x ≡ o → ⊥
some_apart x o none some = none-some x (sym (some ∙ none))

module _ {K X : Type 0} {R : K → K → Ordering} (total : IsTotalOrder R) (exact : (k j : K) → R k j ≡ Equal → k ≡ j) where
  abbrev at : List (K × X) → K → Option X
  at es k = lookup (is_at (R k)) es

  abbrev IsBelow : K → List (K × X) → Type 0
  IsBelow k es = All (λ j. R k j ≡ Less) (keys_of es)

  -- ---- what is found

  found_first : (k : K) (x : X) (rest : List (K × X)) → at ((k, x) ∷ rest) k ≡ Some x
  found_first k x rest = rw (ap is_eq (tied_itself total k)) refl

  found_later : (k j : K) (x : X) (rest : List (K × X)) → is_eq (R k j) ≡ false → at ((j, x) ∷ rest) k ≡ at rest k
  found_later k j x rest apart = rw apart refl

  -- a key that is below all has no value
  below_none : (k : K) (es : List (K × X)) → IsBelow k es → at es k ≡ None
  below_none k [] below = refl
  below_none k ((j, x) ∷ rest) below = found_later k j x rest (ap is_eq below.0) ∙ below_none k rest below.1

  below_all : (k j : K) (es : List (K × X)) → R k j ≡ Less → IsBelow j es → IsBelow k es
  below_all k j [] less below = tt
  below_all k j ((l, x) ∷ rest) less below = (total.trans k j l less below.0, below_all k j rest less below.1)

  -- ---- two lists

  abbrev pub HaveSame : List (K × X) → List (K × X) → Type 0
  HaveSame xs ys = (k : K) → at xs k ≡ at ys k

  pub same_entries : (xs ys : List (K × X)) → IsStrictlySortedBy R (keys_of xs) → IsStrictlySortedBy R (keys_of ys) → HaveSame xs ys → xs ≡ ys
  unfolding IsStrictlySortedBy
  same_entries [] [] s t same = refl
  same_entries [] ((j, y) ∷ ys) s t same = absurd (none-some y (same j ∙ found_first j y ys))
  same_entries ((k, x) ∷ xs) [] s t same = absurd (none-some x (sym (same k) ∙ found_first k x xs))
  same_entries ((k, x) ∷ xs) ((j, y) ∷ ys) s t same =
      by_order (λ one. same_entries xs ys s.1 t.1 (λ l. tail_same l (R l k) refl one)) (R k j) refl
    where
      by_order : (k ≡ j → xs ≡ ys) → (o : Ordering) → R k j ≡ o → (k, x) ∷ xs ≡ (j, y) ∷ ys
      by_order rest Less less =
          absurd (some_apart x (at ((j, y) ∷ ys) k) (below_none k ((j, y) ∷ ys) (less, below_all k j ys less t.0)) (sym (found_first k x xs) ∙ same k))
      by_order rest Greater greater =
          let less : R j k ≡ Less = total.antisymm j k ∙ ap ordering_reverse greater in
          absurd (some_apart y (at ((k, x) ∷ xs) j) (below_none j ((k, x) ∷ xs) (less, below_all j k xs less s.0)) (sym (found_first j y ys) ∙ sym (same j)))
      by_order rest Equal equal =
          let one : k ≡ j = exact k j equal in
          let value : x ≡ y = same_Some x y (sym (found_first k x xs) ∙ same k ∙ ap (at ((j, y) ∷ ys)) one ∙ found_first j y ys) in
          λ i. (one i, value i) ∷ rest one i

      apart : (l : K) → is_eq (R l k) ≡ false → k ≡ j → at xs l ≡ at ys l
      apart l other one =
          let other_j : is_eq (R l j) ≡ false = subst (λ q. is_eq (R l q) ≡ false) one other in
          sym (found_later l k x xs other) ∙ same l ∙ found_later l j y ys other_j

      tail_same : (l : K) (o : Ordering) → R l k ≡ o → k ≡ j → at xs l ≡ at ys l
      tail_same l Equal equal one =
          let is : l ≡ k = exact l k equal in
          let none_x : at xs k ≡ None = below_none k xs s.0 in
          let none_y : at ys j ≡ None = below_none j ys t.0 in
          ap (at xs) is ∙ none_x ∙ sym none_y ∙ ap (at ys) (sym one) ∙ ap (at ys) (sym is)
      tail_same l Less less one = apart l (ap is_eq less) one
      tail_same l Greater greater one = apart l (ap is_eq greater) one

pub same_items : (xs ys : Items) → InOrder xs → InOrder ys → ((k : Key) → item_of xs k ≡ item_of ys k) → xs ≡ ys
same_items xs ys s t same = same_entries key_cmp_total key_cmp_exact xs ys s t same
