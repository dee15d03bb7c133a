-- The tables of topics: what is asked of each of the four services, a line a row.
use Rattle.std.specs.Prelude.{[], ◌∷◌, List, Option, Some, Result, Ok}
use Rattle.serde_json.specs.Data.{Data, no_members}
use Rattle.siri_records.specs.declared.item.Service.{Service}
use Rattle.siri_records.specs.declared.item.Service.TheVariants as service
use Rattle.siri_topic.specs.declared.topics.LineDirection.{LineDirection}
use Rattle.siri_topic.specs.declared.topics.SituationTopic.{SituationTopic}
use Rattle.siri_topic.specs.declared.topics.StopTopic.{StopTopic}
use Rattle.siri_topic.specs.declared.topics.TimetableTopic.{TimetableTopic}
use Rattle.siri_topic.specs.declared.topics.Topic.{Topic}
use Rattle.siri_topic.specs.declared.topics.Topic.TheVariants as topics
use Rattle.siri_topic.specs.declared.topics.VehicleTopic.{VehicleTopic}
use Rattle.siri_items.specs.declared.names.TheConstants.{MONITORING_REF, LINE_REF, DIRECTION_REF, OPERATOR_REF}
use Rattle.siri_items.specs.declared.names.TheConstants.{DESTINATION_REF, START_TIME}
use Rattle.siri_items.specs.declared.names.TheConstants.{VEHICLE_REF, STOP_POINT_REF}
use Rattle.siri_tables.specs.Refusals.{Refusal, ◌>>=◌}
use Rattle.siri_tables.specs.Rules.{table}
use Rattle.siri_tables.specs.Tables.{Kind, optional, mandatory, entries_inside, a_name, a_moment, a_number, Table}
use Rattle.siri_tables.specs.Tables.{Maker, read_all, AllProper, all_written}
use Rattle.siri_tables.specs.Writing.{row_object, with_rows, object_unless_empty, written_list}
use Rattle.siri_deliveries.specs.declared.names.TheConstants.{PREVIEW_INTERVAL, MAXIMUM_STOP_VISITS, LINES}
use Rattle.siri_deliveries.specs.declared.names.TheConstants.{LINE_DIRECTION}
use Rattle.siri_deliveries.specs.Rows.{a_whole_span}

-- StopMonitoringRequest: the visits at a monitoring point (EN 15531-3)
abbrev pub stop_topic_table : Table StopTopic
stop_topic_table =
    mandatory a_name MONITORING_REF.now (λ t. t.monitoring_ref) ∷
    optional a_name LINE_REF.now (λ t. t.line_ref) ∷
    optional a_name DIRECTION_REF.now (λ t. t.direction_ref) ∷
    optional a_name OPERATOR_REF.now (λ t. t.operator_ref) ∷
    optional a_name DESTINATION_REF.now (λ t. t.destination_ref) ∷
    optional a_whole_span PREVIEW_INTERVAL.now (λ t. t.preview_interval) ∷
    optional a_moment START_TIME.now (λ t. t.start_time) ∷
    optional a_number MAXIMUM_STOP_VISITS.now (λ t. t.maximum_stop_visits) ∷ []

abbrev pub make_stop_topic : Maker stop_topic_table
make_stop_topic =
    λ monitoring_ref line_ref direction_ref operator_ref destination_ref preview_interval start_time
    maximum_stop_visits.
    record {
      monitoring_ref = monitoring_ref;
      line_ref = line_ref;
      direction_ref = direction_ref;
      operator_ref = operator_ref;
      destination_ref = destination_ref;
      preview_interval = preview_interval;
      start_time = start_time;
      maximum_stop_visits = maximum_stop_visits;
    }

unfoldable pub read_stop_topic_rows : Data → Result StopTopic Refusal
read_stop_topic_rows d = read_all stop_topic_table make_stop_topic d

unfoldable pub written_stop_topic : StopTopic → Data
written_stop_topic t = row_object (all_written stop_topic_table t)

unfoldable pub stop_topic : Data → Result Topic Refusal
stop_topic d = read_stop_topic_rows d >>= λ t. Ok (topics.Stop t)

-- LineDirection: a line, and a direction of it (EN 15531-3)
abbrev pub line_direction_table : Table LineDirection
line_direction_table =
    mandatory a_name LINE_REF.now (λ l. l.line_ref) ∷
    optional a_name DIRECTION_REF.now (λ l. l.direction_ref) ∷ []

abbrev pub make_line_direction : Maker line_direction_table
make_line_direction = λ line_ref direction_ref. record { line_ref = line_ref; direction_ref = direction_ref }

unfoldable pub line_direction : Data → Result LineDirection Refusal
line_direction d = read_all line_direction_table make_line_direction d

unfoldable pub written_line_direction : LineDirection → Option Data
written_line_direction l = Some (row_object (all_written line_direction_table l))

abbrev pub a_line_direction : Kind LineDirection
a_line_direction = record
    { rule = table line_direction; writing = written_line_direction; Is = AllProper line_direction_table }

-- Lines, which isn't written where all lines are asked for
abbrev pub written_lines : List LineDirection → Option Data
written_lines lines = object_unless_empty
    (with_rows no_members ((LINE_DIRECTION.now, written_list written_line_direction lines) ∷ []))

-- EstimatedTimetableRequest: the journeys of an operator, on some lines (EN 15531-3)
abbrev pub timetable_topic_table : Table TimetableTopic
timetable_topic_table =
    optional a_whole_span PREVIEW_INTERVAL.now (λ t. t.preview_interval) ∷
    optional a_name OPERATOR_REF.now (λ t. t.operator_ref) ∷
    entries_inside a_line_direction 100 LINES.now LINE_DIRECTION.now (λ t. t.lines) ∷ []

abbrev pub make_timetable_topic : Maker timetable_topic_table
make_timetable_topic = λ preview_interval operator_ref lines. record
    { preview_interval = preview_interval; operator_ref = operator_ref; lines = lines }

unfoldable pub timetable_topic : Data → Result Topic Refusal
timetable_topic d = read_all timetable_topic_table make_timetable_topic d >>= λ t. Ok (topics.Timetable t)

unfoldable pub written_timetable_topic : TimetableTopic → Data
written_timetable_topic t = row_object (all_written timetable_topic_table t)

-- VehicleMonitoringRequest: the vehicles of a line and a direction (EN 15531-3)
abbrev pub vehicle_topic_table : Table VehicleTopic
vehicle_topic_table =
    optional a_name VEHICLE_REF.now (λ t. t.vehicle_ref) ∷
    optional a_name LINE_REF.now (λ t. t.line_ref) ∷
    optional a_name DIRECTION_REF.now (λ t. t.direction_ref) ∷ []

abbrev pub make_vehicle_topic : Maker vehicle_topic_table
make_vehicle_topic = λ vehicle_ref line_ref direction_ref. record
    { vehicle_ref = vehicle_ref; line_ref = line_ref; direction_ref = direction_ref }

unfoldable pub vehicle_topic : Data → Result Topic Refusal
vehicle_topic d = read_all vehicle_topic_table make_vehicle_topic d >>= λ t. Ok (topics.Vehicle t)

unfoldable pub written_vehicle_topic : VehicleTopic → Data
written_vehicle_topic t = row_object (all_written vehicle_topic_table t)

-- SituationExchangeRequest: the situations that affect a line, a stop and an operator (CEN/TS 15531-5)
abbrev pub situation_topic_table : Table SituationTopic
situation_topic_table =
    optional a_name LINE_REF.now (λ t. t.line_ref) ∷
    optional a_name STOP_POINT_REF.now (λ t. t.stop_point_ref) ∷
    optional a_name OPERATOR_REF.now (λ t. t.operator_ref) ∷
    optional a_whole_span PREVIEW_INTERVAL.now (λ t. t.preview_interval) ∷
    optional a_moment START_TIME.now (λ t. t.start_time) ∷ []

abbrev pub make_situation_topic : Maker situation_topic_table
make_situation_topic =
    λ line_ref stop_point_ref operator_ref preview_interval start_time.
    record {
      line_ref = line_ref;
      stop_point_ref = stop_point_ref;
      operator_ref = operator_ref;
      preview_interval =
          preview_interval;
      start_time = start_time;
    }

unfoldable pub situation_topic : Data → Result Topic Refusal
situation_topic d = read_all situation_topic_table make_situation_topic d >>= λ t. Ok (topics.Situation t)

unfoldable pub written_situation_topic : SituationTopic → Data
written_situation_topic t = row_object (all_written situation_topic_table t)

-- ---- a topic of any service

-- the topic of a service's request
abbrev pub topic_rows : Service → Data → Result Topic Refusal
topic_rows service.Stop = stop_topic
topic_rows service.Timetable = timetable_topic
topic_rows service.Vehicle = vehicle_topic
topic_rows service.Situation = situation_topic

-- a topic, by the table of its own service wherever it stands
unfoldable pub written_topic : Topic → Data
written_topic (topics.Stop t) = written_stop_topic t
written_topic (topics.Timetable t) = written_timetable_topic t
written_topic (topics.Vehicle t) = written_vehicle_topic t
written_topic (topics.Situation t) = written_situation_topic t

abbrev pub topic_writing : Topic → Option Data
topic_writing t = Some (written_topic t)

-- a proper topic, which is of that service
abbrev pub IsProperTopic : Service → Topic → Type 0
IsProperTopic service.Stop (topics.Stop t) = AllProper stop_topic_table t
IsProperTopic service.Timetable (topics.Timetable t) = AllProper timetable_topic_table t
IsProperTopic service.Vehicle (topics.Vehicle t) = AllProper vehicle_topic_table t
IsProperTopic service.Situation (topics.Situation t) = AllProper situation_topic_table t
IsProperTopic s t = ⊥

abbrev pub a_topic : Service → Kind Topic
a_topic s = record { rule = table (topic_rows s); writing = topic_writing; Is = IsProperTopic s }
