-- A feed of items that nothing is held before: where they are those of some kept items that aren't dead, these are current.
use Rattle.std.proofs.Common.{◌≡◌, ◌≤◌, ◌<◌, ℕ, ◌+◌, List, [], ◌∷◌, length, map, fold, filter, cond, Bool, true, false, ◌&&◌, ◌||◌, not, nat_le, Option, None, Some, refl, ap, sym, ◌∙◌, arith}
use Rattle.std.specs.List.{AllByRecursion as All}
use Rattle.std.specs.Ordering.{is_eq}
use Rattle.std.proofs.lemmas.Bool.Decides.{nat_tests}
use Rattle.std.proofs.lemmas.List.Filters.{length-filter_both}
use Rattle.std.proofs.lemmas.Map.Entries.{option_filter}
use Rattle.siri_records.specs.declared.item.Item.{Item}
use Rattle.siri_records.specs.declared.key.Key.{Key}
use Rattle.siri_records.specs.Ends.{is_dead}
use Rattle.siri_records.specs.Keyed.{InOrder, Items, item_of, living, most_live, with_item}
use Rattle.siri_records.specs.Keys.{key_of}
use Rattle.siri_records.specs.Order.{key_cmp, key_cmp_total}
use Rattle.siri_records.proofs.Order.{key_cmp_exact}
use Rattle.siri_model.specs.History.{Observed, after_entry, is_live, is_refused}
use Rattle.siri_model.proofs.Current.{length_inserted, lookup_inserted}
use Rattle.siri_model.proofs.Entries.{sorted_inserted, sorted_passing}
use Rattle.siri_model.proofs.InOrder.{in_order_all, none_in_order}
use Rattle.siri_keeping.proofs.Found.{tied_is}
use Rattle.siri_keeping.proofs.LiveItems.{alive, live_at}
use Rattle.siri_keeping.proofs.SameItems.{same_items}

-- ---- none is refused

abbrev pub with_one : Items → Item → Items
with_one items i = with_item items (key_of i, i)

pub one_longer : (items : Items) (i : Item) → InOrder items → length (with_one items i) ≤ length items + 1
one_longer items i s = omega (arith, length_inserted key_cmp_total key_cmp_exact (key_of i) i items s)

pub few_passing : {X : Type 0} (p : X → Bool) (xs : List X) → length (filter p xs) ≤ length xs
few_passing p xs = omega (arith, length-filter_both p (λ x. not (p x)) (λ x. refl) xs)

below_most : (count : ℕ) → count < most_live → nat_le most_live count ≡ false
below_most count few = grind (arith, nat_tests)

last_of_three : (a b c : Bool) → c ≡ false → (a && (b && c)) ≡ false
last_of_three true true c e = e
last_of_three true false c e = refl
last_of_three false b c e = refl

is_taken : (now : ℕ) (items : Items) (i : Item) → length items < most_live → is_refused now items i ≡ false
is_taken now items i few =
    let less = few_passing (λ (e : Key × Item). not (is_dead e.1 now)) items in
    last_of_three (not (is_dead i now)) (not (is_live now items (key_of i))) (nat_le most_live (length (living now items)))
    (below_most (length (living now items)) (omega arith))

all_taken : (now : ℕ) (es : List Item) (items : Items) → InOrder items → length items + length es ≤ most_live
    → fold (after_entry now) items (map Observed es) ≡ fold with_one items es
all_taken now [] items s few = refl
all_taken now (i ∷ es) items s few =
    let taken = is_taken now items i (omega arith) in
    let one : after_entry now items (Observed i) ≡ with_one items i = rw taken refl in
    let longer = one_longer items i s in
    ap (λ m. fold (after_entry now) m (map Observed es)) one
    ∙ all_taken now es (with_one items i) (sorted_inserted key_cmp_total (key_of i) i items s) (omega arith)

-- ---- what a key has then

abbrev pub latest : Key → Option Item → List Item → Option Item
latest k held es = fold (λ o i. cond (is_eq (key_cmp k (key_of i))) (Some i) o) held es

pub looked_up : (k : Key) (es : List Item) (items : Items) → item_of (fold with_one items es) k ≡ latest k (item_of items k) es
looked_up k [] items = refl
looked_up k (i ∷ es) items =
    looked_up k es (with_one items i) ∙ ap (λ o. latest k o es) (lookup_inserted key_cmp_total key_cmp_exact k (key_of i) i items)

abbrev pub has : Key → List Item → Bool
has k [] = false
has k (i ∷ es) = is_eq (key_cmp k (key_of i)) || has k es

pub latest_none : (k : Key) (es : List Item) (held : Option Item) → has k es ≡ false → latest k held es ≡ held
latest_none k [] held none = refl
latest_none k (i ∷ es) held none = none_at (latest_none k es held) (is_eq (key_cmp k (key_of i))) refl none
  where
    none_at : (has k es ≡ false → latest k held es ≡ held) → (b : Bool) → is_eq (key_cmp k (key_of i)) ≡ b → (b || has k es) ≡ false → latest k (cond b (Some i) held) es ≡ held
    none_at rest true is none = cc none
    none_at rest false is none = rest none

record IsFound (k : Key) (P : Item → Type 0) (found : Option Item) : Type 0 where
  item : Item
  is : found ≡ Some item
  holds : P item
  own : k ≡ key_of item

latest_found : (P : Item → Type 0) (k : Key) (es : List Item) (held : Option Item) → All P es → has k es ≡ true → IsFound k P (latest k held es)
latest_found P k [] held all some = cc some
latest_found P k (i ∷ es) held all some =
    found_at (λ o more. latest_found P k es o all.1 more) (is_eq (key_cmp k (key_of i))) (has k es) refl refl some
  where
    found_at : ((o : Option Item) → has k es ≡ true → IsFound k P (latest k o es)) → (b c : Bool) → is_eq (key_cmp k (key_of i)) ≡ b → has k es ≡ c → (b || c) ≡ true
        → IsFound k P (latest k (cond b (Some i) held) es)
    found_at rest b true is more some = rest (cond b (Some i) held) more
    found_at rest true false is none some = record {
      item = i;
      is = latest_none k es (Some i) none;
      holds = all.0;
      own = key_cmp_exact k (key_of i) (tied_is (key_cmp k (key_of i)) is);
    }
    found_at rest false false is none some = cc some

-- ---- the kept items that aren't dead

from_none : (count : ℕ) → count ≤ most_live → 0 + count ≤ most_live
from_none count few = omega arith

module _ (m : ℕ) (kept : Items) where
  pub record IsKept (i : Item) : Type 0 where
    pub under : item_of kept (key_of i) ≡ Some i
    pub living_ : is_dead i m ≡ false

  abbrev pub HasAll : List Item → Type 0
  HasAll es = (k : Key) (i : Item) → item_of kept k ≡ Some i → is_dead i m ≡ false → has k es ≡ true

  none_of : (es : List Item) → HasAll es → (k : Key) (held : Option Item) → item_of kept k ≡ held → has k es ≡ false → option_filter (alive m) held ≡ None
  none_of es every k None is none = refl
  none_of es every k (Some i) is none = none_at (is_dead i m) refl
    where
      none_at : (b : Bool) → is_dead i m ≡ b → option_filter (alive m) (Some i) ≡ None
      none_at true dead = rw dead refl
      none_at false living_ = cc (every k i is living_, none)

  of_key : (es : List Item) → All IsKept es → HasAll es → (k : Key) (b : Bool) → has k es ≡ b → latest k None es ≡ option_filter (alive m) (item_of kept k)
  of_key es all every k true some =
      let found = latest_found IsKept k es None all some in
      let there : item_of kept k ≡ Some found.item = ap (item_of kept) found.own ∙ found.holds.under in
      let alone : option_filter (alive m) (Some found.item) ≡ Some found.item = rw (found.holds.living_) refl in
      found.is ∙ sym alone ∙ sym (ap (option_filter (alive m)) there)
  of_key es all every k false none = latest_none k es None none ∙ sym (none_of es every k (item_of kept k) refl none)

  pub fed_items : (now : ℕ) (es : List Item) → InOrder kept → length es ≤ most_live → All IsKept es → HasAll es
      → fold (after_entry now) [] (map Observed es) ≡ living m kept
  fed_items now es s few all every =
      same_items (fold (after_entry now) [] (map Observed es)) (living m kept) (in_order_all now [] (map Observed es) none_in_order)
      (sorted_passing key_cmp (alive m) kept s)
      (λ k. ap (λ items. item_of items k) (all_taken now es [] none_in_order (from_none (length es) few))
      ∙ looked_up k es []
      ∙ of_key es all every k (has k es) refl
      ∙ sym (live_at m kept k s))
