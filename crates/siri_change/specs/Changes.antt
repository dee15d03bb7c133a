-- How views differ, and what leads from one to another (incremental updates of EN 15531-2; ChangeBeforeUpdates of
-- EN 15531-3 is the slack).
use Rattle.std.specs.Prelude.{◌≡◌, ℤ, Bool, true, not, List, map, filter, fold, Option, Some, None, is_some, if◌then◌else◌}
use Rattle.std.specs.List.{list_all}
use Rattle.std.specs.Option.{option_eq}
use Rattle.std.specs.Map.{keys_of}
use Rattle.siri_records.specs.declared.key.Key.{Key}
use Rattle.siri_records.specs.declared.item.Item.{Item}
use Rattle.siri_records.specs.Near.{is_near}
use Rattle.siri_records.specs.Keyed.{Items, item_of, with_item, KeyChange}
use Rattle.siri_change.specs.Same.{is_same}

-- the keys of either view, in order
abbrev pub keys_of_both : Items → Items → List Key
keys_of_both a b = keys_of (fold with_item a b)

-- two views agree on a key by a test: both have no item of it, or the two items pass
abbrev pub agree_on : (Item → Item → Bool) → Items → Items → Key → Bool
agree_on test a b key = option_eq test (item_of a key) (item_of b key)

-- ---- meets

-- a view meets a list where they have the same keys, and the two items of each key are near
pub record Meets (slack : ℤ) (view list : Items) : Type 0 where
  pub keys : (key : Key) → is_some (item_of view key) ≡ is_some (item_of list key)
  pub near : (key : Key) (held listed : Item) → item_of view key ≡ Some held → item_of list key ≡ Some listed → is_near slack held listed ≡ true

-- the same as a test
abbrev pub meets : ℤ → Items → Items → Bool
meets slack view list = list_all (agree_on (is_near slack) view list) (keys_of_both view list)

-- ---- the target of a round

-- the acknowledged item of a key where there is one and it is near, else the new one
abbrev pub acknowledged_if_near : ℤ → Option Item → Item → Item
acknowledged_if_near slack None listed = listed
acknowledged_if_near slack (Some held) listed = if is_near slack held listed then held else listed

-- the direct response itself, or for incremental updates, for each of its items the acknowledged one that is near
abbrev pub target : ℤ → Bool → Items → Items → Items
target slack incremental acknowledged direct =
    if incremental then map (λ entry. (entry.0, acknowledged_if_near slack (item_of acknowledged entry.0) entry.1)) direct else direct

-- ---- changes

-- in order of key, each key on which two views differ, with the item that the second has of it or none
abbrev pub changes : Items → Items → List KeyChange
changes before after = map (λ key. (key, item_of after key)) (filter (λ key. not (agree_on is_same before after key)) (keys_of_both before after))
