-- Inner words: cited by private functions alone.
-- What a look at a subscription finds that was looked at before.
use Rattle.std.specs.Prelude.{◌≡◌, ℕ, ℤ, List, [], map, filter, Bool, false, not, Option, Some, None, cond}
use Rattle.std.specs.BTreeMap.{insert_entry}
use Rattle.std.specs.Map.{keys_of}
use Rattle.siri_records.specs.declared.item.Item.{Item}
use Rattle.siri_records.specs.declared.key.Key.{Key}
use Rattle.siri_records.specs.Ends.{is_dead}
use Rattle.siri_records.specs.KeyLists.{is_among, with_keys}
use Rattle.siri_records.specs.Keyed.{Items, InOrder, KeyChange, apply, item_of}
use Rattle.siri_records.specs.Order.{key_cmp}
use Rattle.siri_topic.specs.declared.topics.Topic.{Topic}
use Rattle.siri_store.specs.Candidates.{candidates, may_be_shown}
use Rattle.siri_store.specs.Marked.{keys_since}
use Rattle.siri_model.specs.History.{IsKeyed}
use Rattle.siri_model.specs.Looks.{crossed_items, found_of, is_unlike, shown_if}
use Rattle.siri_responder.specs.Known.{Known}
use Rattle.siri_subscriptions.specs.declared.course.Looked.{Looked}
use Rattle.siri_subscriptions.specs.declared.touched.Touched.{Touched}

-- ---- what is found

-- the keys that were marked since a number, with the item that is held of each, or none
abbrev pub AreMarked : Known → Option ℕ → List KeyChange → Type 0
AreMarked known None found = Unit {0}
AreMarked known (Some number) found = found ≡ found_of known.held (keys_since known.marks.log number)

abbrev pub AreTouched : Known → Touched → Type 0
AreTouched known touched = AreMarked known touched.number touched.found

-- what is found, and an item more that is held
abbrev pub with_held : List KeyChange → Key × Item → List KeyChange
with_held found entry = insert_entry key_cmp found entry.0 (Some entry.1)

-- the keys that were touched since a look and whose items may be shown to the topic, and the items that may be shown to it of
-- which an end of its window passed an edge since then
abbrev pub touched_keys : Known → Topic → Looked → List Key
touched_keys known topic looked = filter (may_be_shown topic) (keys_since known.marks.log looked.number)

abbrev pub crossed_since : Known → Topic → Looked → Items
crossed_since known topic looked = candidates topic (crossed_items topic looked.moment known.moment known.held)

-- of what may be shown to the topic, the keys that may have changed since a look
abbrev pub keys_looked_at : Known → Topic → Looked → List Key
keys_looked_at known topic looked = with_keys (touched_keys known topic looked) (keys_of (crossed_since known topic looked))

-- ---- what it changes

-- the change of a key that was found, where the view and what was found disagree on it
abbrev pub change_found : ℤ → Items → Topic → ℕ → KeyChange → Option KeyChange
change_found slack view topic now found = cond (is_unlike slack view topic now found)
    (Some (found.0, shown_if topic now found.1)) None

-- of a key that was found, the item that is shown, or none
abbrev pub shown_found : Topic → ℕ → KeyChange → KeyChange
shown_found topic now found = (found.0, shown_if topic now found.1)

-- a key isn't one of those that were found
abbrev pub is_other : List KeyChange → Key → Bool
is_other found key = not (is_among key (keys_of found))

-- of a key, the item that is held of it and shown, or none
abbrev pub shown_of : Known → Topic → Key → KeyChange
shown_of known topic key = (key, shown_if topic known.moment (item_of known.held key))

-- the items that are shown of a view's keys that weren't found, and of those that were
abbrev pub shown_again : Known → Topic → (view : Items) → List KeyChange → Items
shown_again known topic view found =
    apply (apply [] (map (shown_of known topic) (filter (is_other found) (keys_of view))))
    (map (shown_found topic known.moment) found)

-- ---- what is known of the items that a responder holds: they are in order of key, each under its own, and none is dead
pub record AreLive (known : Known) : Type 0 where
  pub ordered : InOrder known.held
  pub keyed : IsKeyed known.held
  pub alive : (key : Key) (i : Item) → item_of known.held key ≡ Some i → is_dead i known.moment ≡ false
