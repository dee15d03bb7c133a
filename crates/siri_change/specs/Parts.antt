-- What a round carries, the parts that it is cut in (MoreData of EN 15531-2), and a part as a functional delivery carries
-- it.
use Rattle.std.specs.Prelude.{ℕ, ◌+◌, ◌*◌, ◌/◌, max, Bool, not, List, [], ◌++◌, length, map, filter, filter_map, fold, take, drop, Some}
use Rattle.std.specs.Prelude.{None, is_some, if◌then◌else◌}
use Rattle.std.specs.List.{range_with_len}
use Rattle.std.specs.Map.{keys_of}
use Rattle.siri_records.specs.declared.key.Key.{Key}
use Rattle.siri_records.specs.declared.item.Item.{Item}
use Rattle.siri_records.specs.Keys.{key_of}
use Rattle.siri_records.specs.Keyed.{Items, KeyChange, apply}
use Rattle.siri_change.specs.Changes.{changes}

-- all of a view, as changes of the empty view
abbrev pub whole : Items → List KeyChange
whole view = map (λ entry. (entry.0, Some entry.1)) view

-- what a round carries: with incremental updates the changes from the acknowledged view to the target, else all of the
-- target
abbrev pub load : Items → Items → Bool → List KeyChange
load acknowledged target incremental = if incremental then changes acknowledged target else whole target

-- what a round's load is made on: with incremental updates the acknowledged view, else the empty one
abbrev pub base_view : Items → Bool → Items
base_view acknowledged incremental = if incremental then acknowledged else []

-- the view that a round leads to by what it carries
abbrev pub led_to : Items → Bool → List KeyChange → Items
led_to acknowledged incremental list = apply (base_view acknowledged incremental) list

-- the part of a list that comes after so many others: each part is a hundred, and the last what is left
abbrev pub part_after : {A : Type 0} → List A → ℕ → List A
part_after list before = take 100 (drop (100 * before) list)

-- how many parts a list has: as many hundreds as it fills or begins, and one where it is empty
abbrev pub parts_count : {A : Type 0} → List A → ℕ
parts_count list = max 1 ((length list + 99) / 100)

-- all its parts in order
abbrev pub parts_of : {A : Type 0} → List A → List (List A)
parts_of list = map (part_after list) (range_with_len 0 (parts_count list))

-- ---- parts as a message carries them

-- a change that isn't a removal
abbrev pub has_item : KeyChange → Bool
has_item change = is_some change.1

-- the changes of a part as they are made: its items before its removals
abbrev pub as_sent : List KeyChange → List KeyChange
as_sent changes = filter has_item changes ++ filter (λ change. not (has_item change)) changes

-- a view after parts, one after the other
abbrev pub apply_parts : Items → List (List KeyChange) → Items
apply_parts view parts = fold (λ so_far part. apply so_far (as_sent part)) view parts

-- what a functional delivery carries: items, without their keys, and the keys that are removed
pub record Carried : Type 0 where
  pub items : List Item
  pub removals : List Key

-- a part as it is carried
abbrev pub carried : List KeyChange → Carried
carried part = record {
  items = filter_map (λ change. change.1) part;
  removals = keys_of (filter (λ change. not (has_item change)) part);
}

-- the changes that are carried: each item as the one of its own key, and then the removals
abbrev pub changes_in : Carried → List KeyChange
changes_in part = map (λ item. (key_of item, Some item)) part.items ++ map (λ key. (key, None)) part.removals

-- a view after what is carried, part after part
abbrev pub apply_carried : Items → List Carried → Items
apply_carried view parts = fold (λ so_far part. apply so_far (changes_in part)) view parts
