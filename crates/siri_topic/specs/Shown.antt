-- The window of a topic, and the items that are shown to it (EN 15531-3; CEN/TS 15531-5 for situations).
use Rattle.std.specs.Prelude.{◌≡◌, ℕ, ℤ, pos, ◌+ℤ◌, max, int_lt, Bool, true, false, ◌&&◌, not, Option, Some, None, option_map}
use Rattle.std.specs.List.{list_any}
use Rattle.siri_records.specs.declared.item.Item.{Item}
use Rattle.siri_records.specs.declared.item.Item.TheVariants as item
use Rattle.siri_records.specs.declared.situation.Period.{Period}
use Rattle.siri_records.specs.declared.situation.Situation.{Situation}
use Rattle.siri_records.specs.Ends.{entry_of, end_of, is_closed, is_dead}
use Rattle.siri_topic.specs.declared.topics.Topic.{Topic}
use Rattle.siri_topic.specs.declared.topics.Topic.TheVariants as topic
use Rattle.siri_topic.specs.declared.windows.Window.{Window}
use Rattle.siri_topic.specs.Agreement.{agrees}

-- the StartTime of a topic, where it has one
abbrev pub start_of : Topic → Option ℕ
start_of (topic.Stop t) = t.start_time
start_of (topic.Timetable t) = None
start_of (topic.Vehicle t) = None
start_of (topic.Situation t) = t.start_time

-- the PreviewInterval of a topic, where it has one
abbrev pub preview_of : Topic → Option ℤ
preview_of (topic.Stop t) = t.preview_interval
preview_of (topic.Timetable t) = t.preview_interval
preview_of (topic.Vehicle t) = None
preview_of (topic.Situation t) = t.preview_interval

-- the near edge of a topic's window: the later of its StartTime and now
abbrev pub near_edge : Option ℕ → ℕ → ℕ
near_edge None now = now
near_edge (Some start) now = max start now

-- the window of a topic: from its near edge on, for its PreviewInterval
abbrev pub window_of : Topic → ℕ → Window
window_of topic now =
    let from = pos (near_edge (start_of topic) now) in
    record { from = from; to = option_map (λ preview. from +ℤ preview) (preview_of topic) }

-- there is such a moment, and it is at or after this one
abbrev pub is_from : ℤ → Option ℕ → Bool
is_from from None = false
is_from from (Some moment) = not (int_lt (pos moment) from)

-- there is such a moment, and it is before this one, where there is one
abbrev pub is_before : Option ℤ → Option ℕ → Bool
is_before to None = false
is_before None (Some moment) = true
is_before (Some to) (Some moment) = int_lt (pos moment) to

-- there is an end, and it is before this moment
abbrev pub ends_before : ℤ → Option ℕ → Bool
ends_before from None = false
ends_before from (Some end) = int_lt (pos end) from

-- a period begins before the far edge and doesn't end before the near edge
abbrev pub is_period_in : Window → Period → Bool
is_period_in window p = is_before window.to (Some p.start_time) && not (ends_before window.from p.end_time)

-- some one period of a situation is in the window
abbrev pub has_period_in : Window → Situation → Bool
has_period_in window s = list_any (λ p. is_period_in window p) s.validity_period

-- a visit or a journey ends at or after the near edge and begins before the far edge
abbrev pub is_between : Window → Item → Bool
is_between window i = is_from window.from (end_of i) && is_before window.to (entry_of i)

-- an item is in a window at a moment; a vehicle where it isn't over at that moment
abbrev pub is_in : Window → ℕ → Item → Bool
is_in window now (item.Visit v) = is_between window (item.Visit v)
is_in window now (item.Journey j) = is_between window (item.Journey j)
is_in window now (item.Vehicle v) = not (ends_before (pos now) v.valid_until_time)
is_in window now (item.Situation s) = has_period_in window s

-- an item is shown to a topic at a moment: it agrees with the topic, isn't closed, and is in the window
abbrev pub is_shown : Topic → Item → ℕ → Bool
is_shown topic i now = agrees topic i && not (is_closed i) && is_in (window_of topic now) now i

-- an item that is dead at a moment is shown to no topic at that moment
abbrev pub DeadAreNeverShown : Type 0
DeadAreNeverShown = (t : Topic) (i : Item) (now : ℕ) → is_dead i now ≡ true → is_shown t i now ≡ false
