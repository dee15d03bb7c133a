-- The test of a view, and what keeps it.
use Rattle.std.proofs.Common.{◌≡◌, ◌≤◌, List, [], ◌∷◌, ◌++◌, length, map, Bool, true, false, cond, ◌&&◌, Option, Some, None, refl, ap, sym, ◌∙◌, arith}
use Rattle.std.specs.Prelude.{◌↔◌, ℤ, nat_le}
use Rattle.std.specs.List.{list_all}
use Rattle.std.specs.List.Sorted.{IsStrictlySortedBy}
use Rattle.std.specs.Map.{remove_entry}
use Rattle.std.specs.BTreeMap.{insert_entry, is_at}
use Rattle.std.specs.Ordering.{is_eq, is_lt}
use Rattle.std.specs.declared.cmp.Ordering.{Ordering}
use Rattle.std.specs.declared.cmp.Ordering.TheVariants.{Less, Equal, Greater}
use Rattle.std.proofs.lemmas.Bool.{and_parts, and_from, leb-true, le-leb}
use Rattle.siri_records.specs.declared.key.Key.{Key}
use Rattle.siri_records.specs.declared.item.Item.{Item}
use Rattle.siri_records.specs.Keys.{key_of}
use Rattle.siri_records.specs.Near.{is_near}
use Rattle.siri_records.specs.Order.{key_cmp}
use Rattle.siri_records.proofs.Order.{key_cmp_exact, key_cmp_same}
use Rattle.siri_records.specs.Keyed.{Items, InOrder, item_of, KeyChange, after_change, apply, most_live}
use Rattle.siri_change.specs.Views.{is_in_order, is_keyed, is_view, is_keyed_change, are_keyed}
use Rattle.siri_change.specs.Changes.{acknowledged_if_near, target}
use Rattle.siri_change.specs.Parts.{whole, load, Carried, changes_in}
use Rattle.siri_change.proofs.Walks.{Above, chosen}
use Rattle.siri_change.proofs.Leads.{tied, one_key, order_after, order_applied}
use Rattle.siri_change.proofs.InParts.{target_order, target_length}

-- ---- in order, by the test

less_from : (o : Ordering) → is_lt o ≡ true → o ≡ Less
less_from Less e = refl
less_from Equal e = cc
less_from Greater e = cc

above_tested : (k : Key) (view : Items) → list_all (λ later. is_lt (key_cmp k later.0)) view ≡ true → Above k view
above_tested k [] t = tt
above_tested k (e ∷ view) t =
    let parts = and_parts (is_lt (key_cmp k e.0)) (list_all (λ later. is_lt (key_cmp k later.0)) view) t in
    (less_from (key_cmp k e.0) parts.0, above_tested k view parts.1)

tested_above : (k : Key) (view : Items) → Above k view → list_all (λ later. is_lt (key_cmp k later.0)) view ≡ true
tested_above k [] above = refl
tested_above k (e ∷ view) above =
    and_from (is_lt (key_cmp k e.0)) (list_all (λ later. is_lt (key_cmp k later.0)) view) (ap is_lt above.0) (tested_above k view above.1)

pub order_from : (view : Items) → is_in_order view ≡ true → InOrder view
unfolding IsStrictlySortedBy
order_from [] t = tt
order_from (e ∷ view) t =
    let parts = and_parts (list_all (λ later. is_lt (key_cmp e.0 later.0)) view) (is_in_order view) t in
    (above_tested e.0 view parts.0, order_from view parts.1)

pub order_test : (view : Items) → InOrder view → is_in_order view ≡ true
unfolding IsStrictlySortedBy
order_test [] s = refl
order_test (e ∷ view) s =
    and_from (list_all (λ later. is_lt (key_cmp e.0 later.0)) view) (is_in_order view) (tested_above e.0 view s.0) (order_test view s.1)

-- ---- a view, by the test

-- what the test says
pub record IsView (view : Items) : Type 0 where
  pub ordered : InOrder view
  pub keyed : is_keyed view ≡ true
  pub small : length view ≤ most_live

pub view_parts : (view : Items) → is_view view ≡ true → IsView view
view_parts view t =
    let both = and_parts (is_in_order view) (is_keyed view && nat_le (length view) most_live) t in
    let rest = and_parts (is_keyed view) (nat_le (length view) most_live) both.1 in
    record { ordered = order_from view both.0; keyed = rest.0; small = leb-true (length view) most_live rest.1 }

pub view_from : (view : Items) → IsView view → is_view view ≡ true
view_from view v =
    and_from (is_in_order view) (is_keyed view && nat_le (length view) most_live) (order_test view v.ordered)
    (and_from (is_keyed view) (nat_le (length view) most_live) v.keyed (le-leb (length view) most_live v.small))

pub view_stated : (view : Items) → (is_view view ≡ true) ↔ (InOrder view × (is_keyed view ≡ true) × (length view ≤ most_live))
view_stated view = (
  (λ t. let v = view_parts view t in (v.ordered, v.keyed, v.small)),
  (λ p. view_from view (record { ordered = p.0; keyed = p.1; small = p.2 })),
)

-- ---- each item under its own key

pub own_key : (x : Item) → tied (key_of x) (key_of x) ≡ true
own_key x = ap is_eq (key_cmp_same (key_of x))

held_case : (e : Key × Item) (a : Items) (k : Key) (x : Item) (t : Bool) → tied k e.0 ≡ t → tied (key_of e.1) e.0 ≡ true
    → cond t (Some e.1) (item_of a k) ≡ Some x → (item_of a k ≡ Some x → tied (key_of x) k ≡ true)
    → tied (key_of x) k ≡ true
held_case e a k x true h own is rest =
    let same : x ≡ e.1 = cc (sym is) in
    (λ i. tied (key_of (same i)) (one_key k e.0 h i)) ∙ own
held_case e a k x false h own is rest = rest is

-- an item that is held is under its own key
pub item_keyed : (a : Items) (k : Key) (x : Item) → is_keyed a ≡ true → item_of a k ≡ Some x → tied (key_of x) k ≡ true
item_keyed [] k x t is = absurd (cc is)
item_keyed (e ∷ a) k x t is =
    let parts = and_parts (tied (key_of e.1) e.0) (is_keyed a) t in
    held_case e a k x (tied k e.0) refl parts.0 is (item_keyed a k x parts.1)

with_case : (k : Key) (x : Item) (e : Key × Item) (a : Items) (o : Ordering) → key_cmp k e.0 ≡ o
    → tied (key_of x) k ≡ true → tied (key_of e.1) e.0 ≡ true → is_keyed a ≡ true
    → is_keyed (insert_entry key_cmp a k x) ≡ true → is_keyed (insert_entry key_cmp (e ∷ a) k x) ≡ true
with_case k x e a Less o own first others rest =
    rw o (and_from (tied (key_of x) k) (tied (key_of e.1) e.0 && is_keyed a) own (and_from (tied (key_of e.1) e.0) (is_keyed a) first others))
with_case k x e a Equal o own first others rest =
    rw o (and_from (tied (key_of x) e.0) (is_keyed a) (ap (tied (key_of x)) (sym (key_cmp_exact k e.0 o)) ∙ own) others)
with_case k x e a Greater o own first others rest = rw o (and_from (tied (key_of e.1) e.0) (is_keyed (insert_entry key_cmp a k x)) first rest)

keyed_with : (k : Key) (x : Item) (a : Items) → tied (key_of x) k ≡ true → is_keyed a ≡ true → is_keyed (insert_entry key_cmp a k x) ≡ true
keyed_with k x [] own t = and_from (tied (key_of x) k) true own refl
keyed_with k x (e ∷ a) own t =
    let parts = and_parts (tied (key_of e.1) e.0) (is_keyed a) t in
    with_case k x e a (key_cmp k e.0) refl own parts.0 parts.1 (keyed_with k x a own parts.1)

without_case : (k : Key) (e : Key × Item) (a : Items) (t : Bool) → tied k e.0 ≡ t → tied (key_of e.1) e.0 ≡ true
    → is_keyed a ≡ true → is_keyed (remove_entry (is_at (key_cmp k)) a) ≡ true
    → is_keyed (remove_entry (is_at (key_cmp k)) (e ∷ a)) ≡ true
without_case k e a true h first others rest = rw h others
without_case k e a false h first others rest = rw h (and_from (tied (key_of e.1) e.0) (is_keyed (remove_entry (is_at (key_cmp k)) a)) first rest)

keyed_without : (k : Key) (a : Items) → is_keyed a ≡ true → is_keyed (remove_entry (is_at (key_cmp k)) a) ≡ true
keyed_without k [] t = refl
keyed_without k (e ∷ a) t =
    let parts = and_parts (tied (key_of e.1) e.0) (is_keyed a) t in
    without_case k e a (tied k e.0) refl parts.0 parts.1 (keyed_without k a parts.1)

pub keyed_after : (a : Items) (c : KeyChange) → is_keyed_change c ≡ true → is_keyed a ≡ true → is_keyed (after_change a c) ≡ true
keyed_after a (k, None) own t = keyed_without k a t
keyed_after a (k, Some x) own t = keyed_with k x a own t

pub keyed_applied : (a : Items) (cs : List KeyChange) → are_keyed cs ≡ true → is_keyed a ≡ true → is_keyed (apply a cs) ≡ true
keyed_applied a [] own t = t
keyed_applied a (c ∷ cs) own t =
    let parts = and_parts (is_keyed_change c) (are_keyed cs) own in
    keyed_applied (after_change a c) cs parts.1 (keyed_after a c parts.0 t)

-- ---- what is carried is keyed

removals_keyed : (ks : List Key) → are_keyed (map (λ key. (key, None)) ks) ≡ true
removals_keyed [] = refl
removals_keyed (k ∷ ks) = removals_keyed ks

carried_keyed : (xs : List Item) (ks : List Key) → are_keyed (map (λ item. (key_of item, Some item)) xs ++ map (λ key. (key, None)) ks) ≡ true
carried_keyed [] ks = removals_keyed ks
carried_keyed (x ∷ xs) ks =
    and_from (tied (key_of x) (key_of x)) (are_keyed
    (map (λ item. (key_of item, Some item)) xs ++ map (λ key. (key, None)) ks)) (own_key x) (carried_keyed xs ks)

pub changes_in_keyed : (part : Carried) → are_keyed (changes_in part) ≡ true
changes_in_keyed part = carried_keyed part.items part.removals

-- ---- what a round carries is keyed

change_case : (t : Items) (k : Key) (held : Option Item) → item_of t k ≡ held → is_keyed t ≡ true → is_keyed_change (k, held) ≡ true
change_case t k None is keyed = refl
change_case t k (Some x) is keyed = item_keyed t k x keyed is

changes_keyed : (t : Items) (ks : List Key) → is_keyed t ≡ true → are_keyed (map (λ key. (key, item_of t key)) ks) ≡ true
changes_keyed t [] keyed = refl
changes_keyed t (k ∷ ks) keyed =
    and_from (is_keyed_change (k, item_of t k)) (are_keyed (map (λ key. (key, item_of t key)) ks))
    (change_case t k (item_of t k) refl keyed) (changes_keyed t ks keyed)

whole_keyed : (t : Items) → is_keyed t ≡ true → are_keyed (whole t) ≡ true
whole_keyed [] keyed = refl
whole_keyed (e ∷ t) keyed =
    let parts = and_parts (tied (key_of e.1) e.0) (is_keyed t) keyed in
    and_from (tied (key_of e.1) e.0) (are_keyed (whole t)) parts.0 (whole_keyed t parts.1)

pub load_keyed : (a t : Items) (incremental : Bool) → is_keyed t ≡ true → are_keyed (load a t incremental) ≡ true
load_keyed a t true keyed = changes_keyed t _ keyed
load_keyed a t false keyed = whole_keyed t keyed

-- ---- targets

chosen_case : (slack : ℤ) (k : Key) (held listed : Item) (t : Bool) → is_near slack held listed ≡ t
    → tied (key_of held) k ≡ true → tied (key_of listed) k ≡ true
    → tied (key_of (acknowledged_if_near slack (Some held) listed)) k ≡ true
chosen_case slack k held listed true h own also = rw h own
chosen_case slack k held listed false h own also = rw h also

chosen_key : (slack : ℤ) (a : Items) (k : Key) (held : Option Item) (listed : Item) → item_of a k ≡ held
    → is_keyed a ≡ true → tied (key_of listed) k ≡ true → tied
    (key_of (acknowledged_if_near slack held listed)) k ≡ true
chosen_key slack a k None listed is keyed own = own
chosen_key slack a k (Some held) listed is keyed own = chosen_case slack k held listed (is_near slack held listed) refl (item_keyed a k held keyed is) own

chosen_keyed : (slack : ℤ) (a direct : Items) → is_keyed a ≡ true → is_keyed direct ≡ true → is_keyed (map (chosen slack a) direct) ≡ true
chosen_keyed slack a [] keyed own = refl
chosen_keyed slack a (e ∷ direct) keyed own =
    let parts = and_parts (tied (key_of e.1) e.0) (is_keyed direct) own in
    and_from (tied (key_of (acknowledged_if_near slack (item_of a e.0) e.1)) e.0) (is_keyed (map (chosen slack a) direct))
    (chosen_key slack a e.0 (item_of a e.0) e.1 refl keyed parts.0)
    (chosen_keyed slack a direct keyed parts.1)

target_keyed : (slack : ℤ) (incremental : Bool) (a direct : Items) → is_keyed a ≡ true → is_keyed direct ≡ true
    → is_keyed (target slack incremental a direct) ≡ true
target_keyed slack true a direct keyed own = chosen_keyed slack a direct keyed own
target_keyed slack false a direct keyed own = own

-- ---- views stay views

pub view_target : (slack : ℤ) (incremental : Bool) (a direct : Items) → is_view a ≡ true → is_view direct ≡ true
    → is_view (target slack incremental a direct) ≡ true
view_target slack incremental a direct s t =
    let acknowledged = view_parts a s in
    let wanted = view_parts direct t in
    view_from (target slack incremental a direct) (record {
      ordered = target_order slack incremental a direct wanted.ordered;
      keyed = target_keyed slack incremental a direct acknowledged.keyed wanted.keyed;
      small = omega (arith, target_length slack incremental a direct, wanted.small);
    })

pub view_after : (view : Items) (c : KeyChange) → is_view view ≡ true → is_keyed_change c ≡ true
    → length (after_change view c) ≤ most_live → is_view (after_change view c) ≡ true
view_after view c t own small =
    let v = view_parts view t in
    view_from (after_change view c) (record { ordered = order_after view c v.ordered; keyed = keyed_after view c own v.keyed; small = small })

fewer_case : (k : Key) (e : Key × Item) (a : Items) (t : Bool) → tied k e.0 ≡ t
    → length (remove_entry (is_at (key_cmp k)) a) ≤ length a
    → length (remove_entry (is_at (key_cmp k)) (e ∷ a)) ≤ length (e ∷ a)
fewer_case k e a true h rest = rw h (omega arith)
fewer_case k e a false h rest = rw h (omega (arith, rest))

fewer : (k : Key) (a : Items) → length (remove_entry (is_at (key_cmp k)) a) ≤ length a
fewer k [] = omega arith
fewer k (e ∷ a) = fewer_case k e a (tied k e.0) refl (fewer k a)

pub view_without : (view : Items) (k : Key) → is_view view ≡ true → is_view (after_change view (k, None)) ≡ true
view_without view k t =
    let v = view_parts view t in
    view_after view (k, None) t refl (omega (arith, fewer k view, v.small))

pub view_carried : (view : Items) (part : Carried) → is_view view ≡ true
    → length (apply view (changes_in part)) ≤ most_live → is_view (apply view (changes_in part)) ≡ true
view_carried view part t small =
    let v = view_parts view t in
    view_from (apply view (changes_in part)) (record {
      ordered = order_applied view (changes_in part) v.ordered;
      keyed = keyed_applied view (changes_in part) (changes_in_keyed part) v.keyed;
      small = small;
    })
