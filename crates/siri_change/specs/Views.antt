-- Views of current items: what a direct response, an acknowledged view and a target are.
use Rattle.std.specs.Prelude.{nat_le, Bool, true, ◌&&◌, List, [], ◌∷◌, length, Some, None}
use Rattle.std.specs.List.{list_all}
use Rattle.std.specs.BTreeMap.{is_at}
use Rattle.std.specs.Ordering.{is_lt}
use Rattle.siri_records.specs.Keys.{key_of}
use Rattle.siri_records.specs.Order.{key_cmp}
use Rattle.siri_records.specs.Keyed.{Items, KeyChange, most_live}

-- each key is above those before it
abbrev pub is_in_order : Items → Bool
is_in_order [] = true
is_in_order (entry ∷ view) = list_all (λ later. is_lt (key_cmp entry.0 later.0)) view && is_in_order view

-- each item is held under its own key
abbrev pub is_keyed : Items → Bool
is_keyed view = list_all (λ entry. is_at (key_cmp (key_of entry.1)) entry.0) view

-- a view of current items: in order of key, each item under its own, and no more than are live at once
abbrev pub is_view : Items → Bool
is_view view = is_in_order view && (is_keyed view && nat_le (length view) most_live)

-- ---- changes

-- a change has the item of its key, or removes it
abbrev pub is_keyed_change : KeyChange → Bool
is_keyed_change (key, None) = true
is_keyed_change (key, Some item) = is_at (key_cmp (key_of item)) key

-- changes have items of their keys
abbrev pub are_keyed : List KeyChange → Bool
are_keyed list = list_all is_keyed_change list
