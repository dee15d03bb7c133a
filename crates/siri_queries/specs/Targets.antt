-- The target of a request: the path of its one topic's service, and the pairs of the topic's rows that are there, in
-- order of the table (EN 15531-3, CEN/TS 15531-5).
use Rattle.std.specs.Prelude.{ℕ, List, [], ◌∷◌, ◌++◌, length, nat_lt, if◌then◌else◌, Option, None, Some, option_map}
use Rattle.std.specs.Prelude.{option_and_then, option_to_list, flat_map, fold}
use Rattle.std.specs.List.{filter_map}
use Rattle.serde_json.specs.Data.{Data, string, number}
use Rattle.serde_json.specs.Written.{number_text}
use Rattle.form_urlencoded.specs.Form.{extend_pairs}
use Rattle.siri_topic.specs.declared.topics.TimetableTopic.{TimetableTopic}
use Rattle.siri_topic.specs.declared.topics.Topic.{Topic}
use Rattle.siri_topic.specs.declared.topics.Topic.TheVariants as topics
use Rattle.siri_messages.specs.declared.requests.ServiceRequest.{ServiceRequest}
use Rattle.siri_tables.specs.Tables.{all_written}
use Rattle.siri_tables.specs.Writing.{Row, written_text, written_span}
use Rattle.siri_deliveries.specs.Topics.{stop_topic_table, line_direction_table, vehicle_topic_table}
use Rattle.siri_deliveries.specs.Topics.{situation_topic_table}
use Rattle.siri_items.specs.declared.names.TheConstants.{OPERATOR_REF}
use Rattle.siri_deliveries.specs.declared.names.TheConstants.{PREVIEW_INTERVAL}
use Rattle.siri_queries.specs.Paths.{path_of}
use Rattle.siri_topic.specs.Services.{service_asked}

-- ---- what one query can ask

-- the functional requests of a request
abbrev pub topics_of : ServiceRequest → List Topic
topics_of r =
    r.stop_monitoring_request ++ (
    r.estimated_timetable_request ++ (
    r.vehicle_monitoring_request ++
    r.situation_exchange_request))

abbrev pub only : List Topic → Option Topic
only [] = None
only (t ∷ []) = Some t
only (t ∷ u ∷ ts) = None

-- a topic of several lines is more than one query can ask
abbrev pub unless_several_lines : Topic → Option Topic
unless_several_lines (topics.Timetable t) = if nat_lt 1 (length t.lines) then None else Some (topics.Timetable t)
unless_several_lines other = Some other

-- the one topic of a request that one query can ask
abbrev pub query_topic : ServiceRequest → Option Topic
query_topic r = option_and_then unless_several_lines (only (topics_of r))

-- ---- its pairs

-- the rows of a timetable's topic, with those of its line in place of Lines
abbrev pub timetable_rows : TimetableTopic → List Row
timetable_rows t =
    (PREVIEW_INTERVAL.now, option_and_then written_span t.preview_interval) ∷
    (OPERATOR_REF.now, option_and_then written_text t.operator_ref) ∷
    flat_map (all_written line_direction_table) t.lines

abbrev pub rows_of : Topic → List Row
rows_of (topics.Stop t) = all_written stop_topic_table t
rows_of (topics.Timetable t) = timetable_rows t
rows_of (topics.Vehicle t) = all_written vehicle_topic_table t
rows_of (topics.Situation t) = all_written situation_topic_table t

-- the text of a value that is written as a string or a number
abbrev pub value_text : Data → List ℕ
value_text (string text) = text
value_text (number n) = number_text n
value_text other = []

-- the pair of a row that is there
abbrev pub pair_of : Row → Option (List ℕ × List ℕ)
pair_of row = option_map (λ d. (row.0, value_text d)) row.1

abbrev pub pairs_of : Topic → List (List ℕ × List ℕ)
pairs_of t = filter_map pair_of (rows_of t)

-- a form with the pair of one row more, where it is there, and with those of several
abbrev pub with_pair : List ℕ → Row → List ℕ
with_pair form row = extend_pairs form (option_to_list (pair_of row))

abbrev pub with_pairs : List ℕ → List Row → List ℕ
with_pairs form rows = fold with_pair form rows

-- the pairs of a topic as a form writes them
abbrev pub form_of : Topic → List ℕ
form_of t = extend_pairs [] (pairs_of t)

-- ---- its target

-- `?` and a form, where it isn't empty
abbrev pub behind_path : List ℕ → List ℕ
behind_path [] = []
behind_path (b ∷ bs) = 63 ∷ b ∷ bs

abbrev pub topic_target : Topic → List ℕ
topic_target t = path_of (service_asked t) ++ behind_path (form_of t)

-- a target has at most 16,384 bytes
abbrev pub unless_too_long : List ℕ → Option (List ℕ)
unless_too_long target = if nat_lt 16384 (length target) then None else Some target

-- the target of a request that one query can ask
abbrev pub target_of : ServiceRequest → Option (List ℕ)
target_of r = option_and_then (λ t. unless_too_long (topic_target t)) (query_topic r)
