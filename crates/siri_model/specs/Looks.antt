-- What a look finds of the keys that may have changed since the last one.
use Rattle.std.specs.Prelude.{◌≡◌, ℕ, ℤ, ◌≤◌, false, not, List, map, filter, Option, Some, cond, None, Bool}
use Rattle.std.specs.Option.{option_eq}
use Rattle.siri_records.specs.declared.item.Item.{Item}
use Rattle.siri_records.specs.declared.key.Key.{Key}
use Rattle.siri_records.specs.Ends.{is_dead}
use Rattle.siri_records.specs.Keyed.{Items, InOrder, KeyChange, item_of}
use Rattle.siri_records.specs.Near.{is_near}
use Rattle.siri_topic.specs.declared.topics.Topic.{Topic}
use Rattle.siri_topic.specs.Crossed.{is_crossed}
use Rattle.siri_topic.specs.Shown.{is_shown}
use Rattle.siri_change.specs.Looks.{changes_among}
use Rattle.siri_model.specs.Direct.{shown}

-- ---- what wasn't touched and isn't crossed

-- no item that is held of a key is dead, or is crossed
abbrev pub IsUncrossed : Topic → ℕ → ℕ → Option Item → Type 0
IsUncrossed topic before now held = (i : Item) → held ≡ Some i → (is_dead i now ≡ false) × (is_crossed topic before now i ≡ false)

-- a key of which the same item is held as at an earlier moment, or none as then, and which wasn't crossed, has the same item
-- shown as then, or none as then
abbrev pub SameShown : Type 0
SameShown = (topic : Topic) (before now : ℕ) (then held : Items) (key : Key) → InOrder then → InOrder held → before ≤ now
    → item_of held key ≡ item_of then key → IsUncrossed topic before now (item_of held key)
    → item_of (shown now held topic) key ≡ item_of (shown before then topic) key

-- the items that an end of a topic's window passed between two moments, in order of key
abbrev pub crossed_items : Topic → ℕ → ℕ → Items → Items
crossed_items topic before now items = filter (λ entry. is_crossed topic before now entry.1) items

-- ---- what a look finds: keys with the item that is held of each, or none

abbrev pub found_of : Items → List Key → List KeyChange
found_of held keys = map (λ key. (key, item_of held key)) keys

-- the item, where it is shown
abbrev pub shown_if : Topic → ℕ → Option Item → Option Item
shown_if topic now None = None
shown_if topic now (Some i) = cond (is_shown topic i now) (Some i) None

-- the view and what was found disagree on a key
abbrev pub is_unlike : ℤ → Items → Topic → ℕ → KeyChange → Bool
is_unlike slack view topic now found = not (option_eq (is_near slack) (item_of view found.0) (shown_if topic now found.1))

-- the changes of what was found: what a walk over it makes
abbrev pub changes_found : ℤ → Items → Topic → ℕ → List KeyChange → List KeyChange
changes_found slack view topic now found = map (λ f. (f.0, shown_if topic now f.1)) (filter (is_unlike slack view topic now) found)

-- so what is found of the held items is enough
abbrev pub FoundTell : Type 0
FoundTell = (slack : ℤ) (view held : Items) (topic : Topic) (now : ℕ) (keys : List Key) → InOrder held
    → changes_found slack view topic now (found_of held keys) ≡ changes_among slack view (shown now held topic) keys
