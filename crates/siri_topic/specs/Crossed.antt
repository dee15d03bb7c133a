-- Which items the ends of a topic's window passed between two moments.
use Rattle.std.specs.Prelude.{◌≡◌, ℕ, ℤ, ◌≤◌, Bool, false, ◌||◌, Option, Some, None}
use Rattle.siri_records.specs.declared.item.Item.{Item}
use Rattle.siri_records.specs.declared.item.Item.TheVariants as item
use Rattle.siri_records.specs.Ends.{is_dead}
use Rattle.siri_topic.specs.declared.topics.Topic.{Topic}
use Rattle.siri_topic.specs.declared.topics.Topic.TheVariants as topic
use Rattle.siri_topic.specs.Shown.{window_of, is_shown}
use Rattle.siri_records.specs.Edges.{has_edge}

-- the near end of a topic's window passed an edge of the item
abbrev pub near_end_passed : Topic → ℕ → ℕ → Item → Bool
near_end_passed topic before now i = has_edge (window_of topic before).from (window_of topic now).from i

abbrev pub far_end_between : Option ℤ → Option ℤ → Item → Bool
far_end_between None now i = false
far_end_between (Some before) None i = false
far_end_between (Some before) (Some now) i = has_edge before now i

-- the far end passed an edge of it, where there is a far end
abbrev pub far_end_passed : Topic → ℕ → ℕ → Item → Bool
far_end_passed topic before now i = far_end_between (window_of topic before).to (window_of topic now).to i

-- an end of the window passed an edge of an item of the topic's service, such that it may be shown now and wasn't before, or
-- was and isn't: a visit or a journey that the near end passes is dead, so for these the far end alone counts
abbrev pub is_crossed : Topic → ℕ → ℕ → Item → Bool
is_crossed (topic.Stop t) before now (item.Visit v) = far_end_passed (topic.Stop t) before now (item.Visit v)
is_crossed (topic.Timetable t) before now (item.Journey j) = far_end_passed (topic.Timetable t) before now (item.Journey j)
is_crossed (topic.Situation t) before now (item.Situation s) =
    near_end_passed (topic.Situation t) before now (item.Situation s) || far_end_passed (topic.Situation t) before now (item.Situation s)
is_crossed t before now i = false

-- an item that isn't dead and isn't crossed is shown exactly where it was shown before
abbrev pub StaysShown : Type 0
StaysShown = (topic : Topic) (i : Item) (before now : ℕ) → before ≤ now → is_dead i now ≡ false → is_crossed topic before now i ≡ false
    → is_shown topic i now ≡ is_shown topic i before
