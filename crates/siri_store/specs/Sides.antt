-- On which side of the keys of a topic's candidates a key is.
-- Inner words: cited by private functions alone.
use Rattle.std.specs.Prelude.{ℕ, Bool, List, [], ◌∷◌}
use Rattle.std.specs.Cmp.Lexicographic.{slice_cmp}
use Rattle.std.specs.Ordering.{nat_cmp, ordering_then, ordering_index, is_lt}
use Rattle.std.specs.declared.cmp.Ordering.{Ordering}
use Rattle.std.specs.declared.cmp.Ordering.TheVariants.{Equal}
use Rattle.siri_records.specs.declared.key.Key.{Key}
use Rattle.siri_records.specs.declared.key.Key.TheVariants as key
use Rattle.siri_records.specs.Order.{rank}
use Rattle.siri_topic.specs.declared.topics.LineDirection.{LineDirection}
use Rattle.siri_topic.specs.declared.topics.Topic.{Topic}
use Rattle.siri_topic.specs.declared.topics.Topic.TheVariants as topic

-- the rank of the keys of a topic's service
abbrev pub rank_asked : Topic → ℕ
rank_asked (topic.Stop t) = 0
rank_asked (topic.Timetable t) = 1
rank_asked (topic.Vehicle t) = 2
rank_asked (topic.Situation t) = 3

-- a line against the one that is asked for, where that is a single one
abbrev pub line_cmp : List LineDirection → List ℕ → Ordering
line_cmp (only ∷ []) line = slice_cmp nat_cmp line only.line_ref
line_cmp lines line = Equal

-- a visit's MonitoringRef against the one of a stop's topic, a journey's LineRef against the single line of a timetable's
abbrev pub place_cmp : Topic → Key → Ordering
place_cmp (topic.Stop t) (key.Visit monitoring item) = slice_cmp nat_cmp monitoring t.monitoring_ref
place_cmp (topic.Timetable t) (key.Journey line direction frame journey) = line_cmp t.lines line
place_cmp t k = Equal

-- a key is below those of a topic's candidates, one of them, or above them
abbrev pub side : Topic → Key → Ordering
side t k = ordering_then (nat_cmp (rank k) (rank_asked t)) (place_cmp t k)

-- a key's side is below this one
abbrev pub is_below : Topic → Ordering → Key → Bool
is_below t least k = is_lt (nat_cmp (ordering_index (side t k)) (ordering_index least))
