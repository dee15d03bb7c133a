-- Items by their keys: what a store holds, and what a view of a subscription holds.
use Rattle.std.specs.Prelude.{◌≡◌, ℕ, ◌+◌, ◌<◌, ◌≤◌, not, List, [], ◌∷◌, length, drop, map, filter, fold, Option, Some, None}
use Rattle.std.specs.Borrow.{Bor}
use Rattle.std.specs.List.Sorted.{IsStrictlySortedBy}
use Rattle.std.specs.Map.{keys_of, lookup, remove_entry}
use Rattle.std.specs.BTreeMap.{insert_entry, is_at}
use Rattle.std.specs.declared.rc.Rc.{Rc}
use Rattle.std.specs.declared.alloc.Global.{Global}
use Rattle.siri_records.specs.declared.key.Key.{Key}
use Rattle.siri_records.specs.declared.item.Item.{Item}
use Rattle.siri_records.specs.Ends.{is_dead}
use Rattle.siri_records.specs.Order.{key_cmp}

-- items with their keys
abbrev pub Items : Type 0
Items = List (Key × Item)

-- in order of key, each key once: each key is above the one before it
abbrev pub InOrder : {X : Type 0} → List (Key × X) → Type 0
InOrder entries = IsStrictlySortedBy key_cmp (keys_of entries)

-- the item of a key
abbrev pub item_of : Items → Key → Option Item
item_of items key = lookup (is_at (key_cmp key)) items

-- an item becomes the one of its key
abbrev pub with_item : Items → Key × Item → Items
with_item items entry = insert_entry key_cmp items entry.0 entry.1

-- a key has no item any more
abbrev pub without_key : Items → Key → Items
without_key items key = remove_entry (is_at (key_cmp key)) items

-- those that are dead at a moment
abbrev pub dead_of : ℕ → Items → Items
dead_of moment items = filter (λ entry. is_dead entry.1 moment) items

-- those that aren't
abbrev pub living : ℕ → Items → Items
living moment items = filter (λ entry. not (is_dead entry.1 moment)) items

-- the most keys that are live at once: each has a current item that isn't dead
abbrev pub most_live : ℕ
most_live = 20000

-- what is at a place is the first of those from there on
abbrev pub PlacedAt : {A : Type 0} → List A → ℕ → Option A → Type 0
PlacedAt es place None = (drop place es ≡ []) × (length es ≤ place)
PlacedAt es place (Some x) = (drop place es ≡ x ∷ drop (place + 1) es) × (place < length es)

-- ---- changes

-- a key with its new item, or with none where it is removed
abbrev pub KeyChange : Type 0
KeyChange = Key × Option Item

-- the items after a change of one key
abbrev pub after_change : Items → KeyChange → Items
after_change items (key, None) = without_key items key
after_change items (key, Some item) = with_item items (key, item)

-- the items after changes, one after the other
abbrev pub apply : Items → List KeyChange → Items
apply items list = fold after_change items list

-- ---- items that are shared

-- items with their keys, however they are shared
abbrev pub entries_view : List (Key × Rc Item Global) → Items
entries_view entries = map (λ entry. (entry.0, entry.1.value)) entries

-- an entry that is lent, as its key and its item
abbrev pub deref_entry : Bor (Key × Rc Item Global) → Key × Item
deref_entry entry = (entry.now.0, entry.now.1.value)

-- items, however they are shared
abbrev pub unshared : List (Rc Item Global) → List Item
unshared items = map (λ item. item.value) items
