-- Which held items may be shown to a topic, by their keys alone.
use Rattle.std.specs.Prelude.{◌≡◌, ℕ, Bool, true, false, List, [], ◌∷◌, filter}
use Rattle.std.specs.List.{All}
use Rattle.siri_records.specs.declared.key.Key.{Key}
use Rattle.siri_records.specs.declared.key.Key.TheVariants as key
use Rattle.siri_records.specs.Keyed.{Items}
use Rattle.siri_records.specs.Keys.{key_of}
use Rattle.siri_topic.specs.declared.topics.LineDirection.{LineDirection}
use Rattle.siri_topic.specs.declared.topics.Topic.{Topic}
use Rattle.siri_topic.specs.declared.topics.Topic.TheVariants as topic
use Rattle.siri_topic.specs.Agreement.{same_name}

-- each item is held under its own key
abbrev pub UnderOwnKeys : Items → Type 0
UnderOwnKeys es = All (λ e. e.0 ≡ key_of e.1) es

-- a line is the one that is asked for, where that is a single one
abbrev pub may_be_line : List LineDirection → List ℕ → Bool
may_be_line (only ∷ []) line = same_name line only.line_ref
may_be_line lines line = true

-- an item of this key may be shown to a topic: it is of the topic's service and has, of Stop Monitoring, the topic's
-- MonitoringRef, and of Estimated Timetable its LineRef, where it asks for a single line (EN 15531-3, StopMonitoringRequest
-- and EstimatedTimetableRequest)
abbrev pub may_be_shown : Topic → Key → Bool
may_be_shown (topic.Stop t) (key.Visit monitoring item) = same_name monitoring t.monitoring_ref
may_be_shown (topic.Timetable t) (key.Journey line direction frame journey) = may_be_line t.lines line
may_be_shown (topic.Vehicle t) (key.Vehicle vehicle) = true
may_be_shown (topic.Situation t) (key.Situation participant number) = true
may_be_shown t k = false

-- the entries whose items may be shown to a topic by their keys
abbrev pub candidates : Topic → Items → Items
candidates t es = filter (λ e. may_be_shown t e.0) es
