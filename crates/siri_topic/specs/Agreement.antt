-- Which items agree with a topic by their names (EN 15531-3, the topics of SM, ET and VM; CEN/TS 15531-5, that of SX).
use Rattle.std.specs.Prelude.{ℕ, List, length, ◌==◌, Bool, true, false, ◌&&◌, ◌||◌, nat_eq, Option, Some, None}
use Rattle.std.specs.List.{list_any}
use Rattle.std.specs.Cmp.Lexicographic.{pointwise}
use Rattle.siri_records.specs.declared.item.Item.{Item}
use Rattle.siri_records.specs.declared.item.Item.TheVariants as item
use Rattle.siri_records.specs.declared.journey.Journey.{Journey}
use Rattle.siri_records.specs.declared.situation.Situation.{Situation}
use Rattle.siri_records.specs.declared.vehicle.Vehicle.{Vehicle}
use Rattle.siri_records.specs.declared.visit.Visit.{Visit}
use Rattle.siri_topic.specs.declared.topics.LineDirection.{LineDirection}
use Rattle.siri_topic.specs.declared.topics.SituationTopic.{SituationTopic}
use Rattle.siri_topic.specs.declared.topics.StopTopic.{StopTopic}
use Rattle.siri_topic.specs.declared.topics.TimetableTopic.{TimetableTopic}
use Rattle.siri_topic.specs.declared.topics.Topic.{Topic}
use Rattle.siri_topic.specs.declared.topics.Topic.TheVariants as topic
use Rattle.siri_topic.specs.declared.topics.VehicleTopic.{VehicleTopic}

-- names are the same where their bytes are
abbrev pub same_name : List ℕ → List ℕ → Bool
same_name = pointwise nat_eq

-- no name is given, or it is the item's own; a name that the item lacks is none that is given
abbrev pub is_given : Option (List ℕ) → Option (List ℕ) → Bool
is_given None own = true
is_given (Some given) None = false
is_given (Some given) (Some own) = same_name own given

-- the same of an item that always has the name
abbrev pub is_given_name : Option (List ℕ) → List ℕ → Bool
is_given_name given own = is_given given (Some own)

-- no name is given, or it is one of these
abbrev pub is_among : Option (List ℕ) → List (List ℕ) → Bool
is_among None names = true
is_among (Some given) names = list_any (λ name. same_name name given) names

-- a visit has the monitoring point of the topic, and its journey each name given
unfoldable pub has_visit : StopTopic → Visit → Bool
has_visit t v =
    same_name v.monitoring_ref t.monitoring_ref
    && is_given t.line_ref v.monitored_vehicle_journey.line_ref
    && is_given t.direction_ref v.monitored_vehicle_journey.direction_ref
    && is_given t.operator_ref v.monitored_vehicle_journey.operator_ref
    && is_given t.destination_ref v.monitored_vehicle_journey.destination_ref

-- a journey is on this line and, where a direction is given, in it
abbrev pub is_on : LineDirection → Journey → Bool
is_on l j = same_name j.line_ref l.line_ref && is_given l.direction_ref j.direction_ref

-- no line is asked for, or the journey is on some one of them
abbrev pub is_on_a_line : List LineDirection → Journey → Bool
is_on_a_line lines j = length lines == 0 || list_any (λ l. is_on l j) lines

-- a journey has the operator given, and is on a line that is asked for
unfoldable pub has_journey : TimetableTopic → Journey → Bool
has_journey t j =
    is_given t.operator_ref j.operator_ref
    && is_on_a_line t.lines j

-- a vehicle's journey has each name given
unfoldable pub has_vehicle : VehicleTopic → Vehicle → Bool
has_vehicle t v =
    is_given_name t.vehicle_ref v.monitored_vehicle_journey.vehicle_ref
    && is_given t.line_ref v.monitored_vehicle_journey.line_ref
    && is_given t.direction_ref v.monitored_vehicle_journey.direction_ref

-- a situation affects each line, stop and operator given
unfoldable pub has_situation : SituationTopic → Situation → Bool
has_situation t s =
    is_among t.line_ref s.affected_lines
    && is_among t.stop_point_ref s.affected_stop_points
    && is_among t.operator_ref s.affected_operators

-- an item agrees with a topic of its own service by its names, and with none of another service
abbrev pub agrees : Topic → Item → Bool
agrees (topic.Stop t) (item.Visit v) = has_visit t v
agrees (topic.Timetable t) (item.Journey j) = has_journey t j
agrees (topic.Vehicle t) (item.Vehicle v) = has_vehicle t v
agrees (topic.Situation t) (item.Situation s) = has_situation t s
agrees t i = false
