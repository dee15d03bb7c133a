-- A walk over the items that are shown to a topic.
use Rattle.std.specs.Prelude.{Bool, ◌≡◌, ℕ, ◌+◌, ◌-◌, ◌≤◌, max, List, [], ◌∷◌, slice_range, filter, Option, MatchOption}
use Rattle.std.specs.Map.{values_of}
use Rattle.std.specs.Borrow.{Bor}
use Rattle.std.specs.declared.rc.Rc.{Rc}
use Rattle.std.specs.declared.alloc.Global.{Global}
use Rattle.siri_records.specs.declared.key.Key.{Key}
use Rattle.siri_records.specs.declared.item.Item.{Item}
use Rattle.siri_records.specs.Keyed.{Items}
use Rattle.siri_topic.specs.declared.topics.Topic.{Topic}
use Rattle.siri_topic.specs.Shown.{is_shown}
use Rattle.siri_store.specs.Held.{counted}
use Rattle.siri_store.specs.declared.selected.Selected.{Selected}

-- the item of an entry is shown to a topic at a moment
abbrev pub shown_at : Topic → ℕ → Key × Item → Bool
shown_at topic moment e = is_shown topic e.1 moment

-- the entries whose items are shown to a topic at a moment, in order of key
abbrev pub shown_entries : Topic → ℕ → Items → Items
shown_entries topic moment es = filter (shown_at topic moment) es

-- the items that are shown to a topic at a moment, in order of key
abbrev pub shown_of : Topic → ℕ → Items → List Item
shown_of topic moment es = values_of (shown_entries topic moment es)

-- the entries that a walk has still to lend: those that are shown from its place to its end
abbrev pub entries_to_lend : Selected → Items
entries_to_lend s = shown_entries s.topic.now s.moment (slice_range s.entries.now s.place s.end)

-- the items that a walk has still to lend: those that are shown from its place to its end
abbrev pub to_lend : Selected → List Item
to_lend s = shown_of s.topic.now s.moment (slice_range s.entries.now s.place s.end)

-- the first item that was still to be lent was lent, and each item that was looked at is a step
pub record Steps (s : Selected) (r : Option (Bor (Rc Item Global))) (t : Selected) : Type 0 where
  pub lent : MatchOption r ((to_lend s ≡ []) × (to_lend t ≡ [])) (λ item. to_lend s ≡ item.now.value ∷ to_lend t)
  pub onward : MatchOption r (s.place ≤ t.place) (λ _. s.place + 1 ≤ t.place)
  pub within : t.place ≤ max s.place s.end
  pub end : t.end ≡ s.end
  pub counter : t.counter.now ≡ counted s.counter.now (t.place - s.place)
  pub same_counter : t.counter.ghost_name ≡ s.counter.ghost_name
  pub topic : t.topic.now ≡ s.topic.now
  pub moment : t.moment ≡ s.moment
  pub entries : t.entries.now ≡ s.entries.now

abbrev pub steps : Selected → Option (Bor (Rc Item Global)) → Selected → Type 0
steps s r t = Steps s r t

-- a walk went on: each item that was looked at is a step, and all else is as it was
pub record Walked (s t : Selected) : Type 0 where
  pub onward : s.place ≤ t.place
  pub within : t.place ≤ max s.place s.end
  pub end : t.end ≡ s.end
  pub counter : t.counter.now ≡ counted s.counter.now (t.place - s.place)
  pub same_counter : t.counter.ghost_name ≡ s.counter.ghost_name
  pub topic : t.topic.now ≡ s.topic.now
  pub moment : t.moment ≡ s.moment
  pub entries : t.entries.now ≡ s.entries.now
