-- Shared items that are put under their keys, and gathered in order of key.
use Rattle.std.proofs.Common.{◌≡◌, List, [], ◌∷◌, ◌++◌, refl, ap}
use Rattle.std.specs.BTreeMap.{insert_entry}
use Rattle.std.specs.List.{AllByRecursion}
use Rattle.std.specs.List.Sorted.{IsStrictlySortedBy}
use Rattle.std.specs.Map.{keys_of}
use Rattle.std.specs.declared.alloc.Global.{Global}
use Rattle.std.specs.declared.cmp.Ordering.{Ordering}
use Rattle.std.specs.declared.cmp.Ordering.TheVariants.{Less, Equal, Greater}
use Rattle.std.specs.declared.rc.Rc.{Rc}
use Rattle.siri_records.specs.declared.item.Item.{Item}
use Rattle.siri_records.specs.declared.key.Key.{Key}
use Rattle.siri_records.specs.Keyed.{Items, InOrder, with_item, entries_view}
use Rattle.siri_records.specs.Order.{key_cmp}

abbrev pub Shared : Type 0
Shared = Key × Rc Item Global

insert_case : (k : Key) (item : Rc Item Global) (e : Shared) (es : List Shared) (o : Ordering) → key_cmp k e.0 ≡ o
    → entries_view (insert_entry key_cmp es k item) ≡ with_item (entries_view es) (k, item.value)
    → entries_view (insert_entry key_cmp (e ∷ es) k item) ≡ with_item (entries_view (e ∷ es)) (k, item.value)
insert_case k item e es Less h rest = rw h refl
insert_case k item e es Equal h rest = rw h refl
insert_case k item e es Greater h rest = rw h (ap (λ l. (e.0, e.1.value) ∷ l) rest)

-- an item that is put under its key
pub put_one : (k : Key) (item : Rc Item Global) (es : List Shared) → entries_view (insert_entry key_cmp es k item) ≡ with_item (entries_view es) (k, item.value)
put_one k item [] = refl
put_one k item (e ∷ es) = insert_case k item e es (key_cmp k e.0) refl (put_one k item es)

all_front : (P : Key → Type 0) (es : Items) (e : Key × Item) (more : Items) → AllByRecursion P (keys_of (es ++ e ∷ more))
    → AllByRecursion P (keys_of es ++ e.0 ∷ [])
all_front P [] e more a = (a.0, tt)
all_front P (x ∷ es) e more a = (a.0, all_front P es e more a.1)

-- the key of the next of entries in order is above those before it
pub next_above : (es : Items) (e : Key × Item) (more : Items) → InOrder (es ++ e ∷ more) → IsStrictlySortedBy key_cmp (keys_of es ++ e.0 ∷ [])
unfolding IsStrictlySortedBy
next_above [] e more s = (tt, tt)
next_above (x ∷ es) e more s = (all_front (λ y. key_cmp x.0 y ≡ Less) es e more s.0, next_above es e more s.1)

keys_view : (es : List Shared) → keys_of (entries_view es) ≡ keys_of es
keys_view [] = refl
keys_view (e ∷ es) = ap (λ l. e.0 ∷ l) (keys_view es)

pub view_in_order : (es : List Shared) → IsStrictlySortedBy key_cmp (keys_of es) → InOrder (entries_view es)
view_in_order es s = rw (keys_view es) s
