-- The keys that a round names, and what a view has of them.
-- Inner words: cited by private functions alone.
use Rattle.std.specs.Prelude.{◌≡◌, ◌⊎◌, nat_eq, Bool, false, not, ◌&&◌, List, [], ◌++◌, map, Option, Some, None, if◌then◌else◌}
use Rattle.std.specs.Option.{option_eq}
use Rattle.siri_records.specs.declared.key.Key.{Key}
use Rattle.siri_records.specs.Keys.{key_of}
use Rattle.siri_records.specs.Keyed.{Items, KeyChange, apply, item_of}
use Rattle.siri_records.specs.KeyLists.{is_among}
use Rattle.siri_messages.specs.declared.deliveries.FunctionalDelivery.{FunctionalDelivery}
use Rattle.siri_messages.specs.Rounds.{functional_deliveries}
use Rattle.siri_messages.specs.declared.message.Message.{Message}
use Rattle.siri_messages.specs.declared.message.Message.TheVariants as message
use Rattle.siri_view.specs.Hearing.{only}

-- ---- what a message names

-- a delivery is all of a later round than the first: its first part, and no other follows
abbrev pub is_whole : (more : Bool) → FunctionalDelivery → Bool
is_whole more d = (not more && option_eq nat_eq d.part (Some 1)) && not (option_eq nat_eq d.round (Some 1))

-- the keys of the items of a delivery, and those that it removes
abbrev pub named_in : FunctionalDelivery → List Key
named_in d = map key_of d.items ++ d.removals

-- where it is such a one
abbrev pub named_if : (more : Bool) → Option FunctionalDelivery → Option (List Key)
named_if more None = None
named_if more (Some d) = if is_whole more d then Some (named_in d) else None

-- the keys that a message names, where it delivers all of a later round in one part
abbrev pub named_by : Message → Option (List Key)
named_by (message.ServiceDelivery d) = named_if d.more_data (only (functional_deliveries d))
named_by other = None

-- ---- what a view has of keys

-- the changes that make it
abbrev pub changes_to : List Key → Items → List KeyChange
changes_to keys view = map (λ key. (key, item_of view key)) keys

-- the items of these keys alone
abbrev pub items_at : List Key → Items → Items
items_at keys view = apply [] (changes_to keys view)

-- a round that names these keys leads from a view to another: of all others that has what the first has, or nothing
abbrev pub IsRound : List Key → (before after : Items) → Type 0
IsRound keys before after = ((key : Key) → is_among key keys ≡ false → item_of after key ≡ item_of before key)
    ⊎ ((key : Key) → is_among key keys ≡ false → item_of after key ≡ None)
