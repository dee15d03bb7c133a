-- What the calls of a store do.
use Rattle.std.specs.Prelude.{◌≡◌, ℕ, Bool, false, not, ◌&&◌, nat_le, length, Option, Some, None, is_some}
use Rattle.std.specs.Prelude.{if◌then◌else◌}
use Rattle.std.specs.List.{All, Contains}
use Rattle.std.specs.Map.{values_of}
use Rattle.std.specs.Option.{option_map_or}
use Rattle.std.specs.Ordering.{nat_cmp, on, then_cmp, is_lt}
use Rattle.std.specs.declared.cmp.Ordering.{Ordering}
use Rattle.siri_records.specs.declared.key.Key.{Key}
use Rattle.siri_records.specs.declared.item.Item.{Item}
use Rattle.siri_records.specs.Ends.{end_of, is_dead}
use Rattle.siri_records.specs.Keyed.{Items, item_of, with_item, without_key, dead_of, most_live}
use Rattle.siri_records.specs.Keys.{key_of}
use Rattle.siri_records.specs.Order.{key_cmp}
use Rattle.siri_store.specs.Held.{Held}

-- no held item is dead
abbrev pub NoneDead : Held → Type 0
NoneDead s = All (λ i. is_dead i s.moment ≡ false) (values_of s.entries)

abbrev pub is_held : Held → Key → Bool
is_held s k = is_some (item_of s.entries k)

-- the store without a key
abbrev pub without : Held → Key → Held
without s k = record s { entries = without_key s.entries k }

-- as many keys are held as may be
abbrev pub is_full : Held → Bool
is_full s = nat_le most_live (length s.entries)

-- an item that isn't dead and whose key isn't held is refused by a full store
abbrev pub refuses : Held → Item → Bool
refuses s i = not (is_dead i s.moment) && (is_full s && not (is_held s (key_of i)))

-- an item that was observed becomes the one of its key; a dead one removes its key instead
abbrev pub observed : Held → Item → Held
observed s i =
    if is_dead i s.moment then without s (key_of i) else record s { entries = with_item s.entries (key_of i, i) }

-- ---- which dead item leaves first

-- the moment by which dead items leave in turn: an item's end; a closed item that has none counts as ended at 0
abbrev pub leaves_at : Item → ℕ
leaves_at i = option_map_or (λ end. end) (end_of i) 0

-- by that moment, and then by key
abbrev pub leaving_cmp : Key × Item → Key × Item → Ordering
leaving_cmp = then_cmp (on (λ entry. leaves_at entry.1) nat_cmp) (on (λ entry. entry.0) key_cmp)

-- one of some entries, which no other of them comes before
pub record LeavesFirst (entries : Items) (entry : Key × Item) : Type 0 where
  pub held : Contains entries entry
  pub first : All (λ other. is_lt (leaving_cmp other entry) ≡ false) entries

-- the key of the dead entry that leaves first, or none where no held item is dead
abbrev pub IsNextToLeave : Held → Option Key → Type 0
IsNextToLeave s None = NoneDead s
IsNextToLeave s (Some key) = (item : Item) × LeavesFirst (dead_of s.moment s.entries) (key, item)

-- the store without the key that left, where one did
abbrev pub after_expiry : Held → Option Key → Held
after_expiry s None = s
after_expiry s (Some k) = without s k
