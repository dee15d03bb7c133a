-- The document of a target: a ServiceRequest with one request of the path's service, in which stands what the pairs
-- give (EN 15531-3, CEN/TS 15531-5).
use Rattle.std.specs.Prelude.{ℕ, List, [], ◌∷◌, ◌++◌, map, Option, Some, option_map, option_and_then}
use Rattle.serde_json.specs.Data.{Data, array, no_members}
use Rattle.serde_json.specs.View.{items_of}
use Rattle.serde_json.specs.Written.{compact_text}
use Rattle.siri_records.specs.declared.item.Service.{Service}
use Rattle.siri_records.specs.declared.item.Service.TheVariants as service
use Rattle.siri_items.specs.declared.names.TheConstants.{MONITORING_REF, LINE_REF, DIRECTION_REF, OPERATOR_REF}
use Rattle.siri_items.specs.declared.names.TheConstants.{DESTINATION_REF, START_TIME, VEHICLE_REF, STOP_POINT_REF}
use Rattle.siri_tables.specs.Writing.{Row, row_object, with_rows, object_unless_empty, written_text}
use Rattle.siri_deliveries.specs.declared.names.TheConstants.{PREVIEW_INTERVAL, MAXIMUM_STOP_VISITS, LINES}
use Rattle.siri_deliveries.specs.declared.names.TheConstants.{LINE_DIRECTION, SIRI, SERVICE_REQUEST}
use Rattle.siri_deliveries.specs.declared.names.TheConstants.{STOP_MONITORING_REQUEST, ESTIMATED_TIMETABLE_REQUEST}
use Rattle.siri_deliveries.specs.declared.names.TheConstants.{VEHICLE_MONITORING_REQUEST, SITUATION_EXCHANGE_REQUEST}
use Rattle.siri_queries.specs.Pairs.{path_in, query_in, first_value}
use Rattle.siri_queries.specs.Paths.{service_at}

-- the members of a service's request that pairs name, but for those of Lines
abbrev pub names_of : Service → List (List ℕ)
names_of service.Stop =
    MONITORING_REF.now ∷
    LINE_REF.now ∷
    DIRECTION_REF.now ∷
    OPERATOR_REF.now ∷
    DESTINATION_REF.now ∷
    PREVIEW_INTERVAL.now ∷
    START_TIME.now ∷
    MAXIMUM_STOP_VISITS.now ∷ []
names_of service.Timetable =
    PREVIEW_INTERVAL.now ∷
    OPERATOR_REF.now ∷ []
names_of service.Vehicle =
    VEHICLE_REF.now ∷
    LINE_REF.now ∷
    DIRECTION_REF.now ∷ []
names_of service.Situation =
    LINE_REF.now ∷
    STOP_POINT_REF.now ∷
    OPERATOR_REF.now ∷
    PREVIEW_INTERVAL.now ∷
    START_TIME.now ∷ []

-- a member with the text of the first pair of its name
abbrev pub given : (query name : List ℕ) → Row
given query name = (name, option_and_then written_text (first_value name query))

-- an object of one row, whose value is a list of one
abbrev pub list_of_one : List ℕ → Data → Data
list_of_one name entry = row_object ((name, Some (array (items_of (entry ∷ [])))) ∷ [])

-- Lines with one LineDirection, where its line or its direction is there
abbrev pub one_line : (line direction : Option (List ℕ)) → Option Data
one_line line direction = option_map (list_of_one LINE_DIRECTION.now) (object_unless_empty (with_rows no_members (
    (LINE_REF.now, option_and_then written_text line) ∷
    (DIRECTION_REF.now, option_and_then written_text direction) ∷ [])))

-- Lines, where a pair names a line or a direction
abbrev pub given_lines : List ℕ → Option Data
given_lines query = one_line (first_value LINE_REF.now query) (first_value DIRECTION_REF.now query)

-- Lines, which timetables alone have
abbrev pub lines_of : Service → List ℕ → List Row
lines_of service.Timetable query = (LINES.now, given_lines query) ∷ []
lines_of other query = []

-- what a query asks of a service
abbrev pub asked_of : Service → List ℕ → Data
asked_of s query = row_object (map (given query) (names_of s) ++ lines_of s query)

-- the name under which a ServiceRequest has the requests of a service
abbrev pub request_name : Service → List ℕ
request_name service.Stop = STOP_MONITORING_REQUEST.now
request_name service.Timetable = ESTIMATED_TIMETABLE_REQUEST.now
request_name service.Vehicle = VEHICLE_MONITORING_REQUEST.now
request_name service.Situation = SITUATION_EXCHANGE_REQUEST.now

-- a document with one request of the service
abbrev pub document_tree : Service → List ℕ → Data
document_tree s query = row_object
    ((
      SIRI.now,
      Some (row_object
          ((SERVICE_REQUEST.now, Some (list_of_one (request_name s) (asked_of s query))) ∷ [])),
    ) ∷ [])

-- the document that a target stands for, where its path is one of the four
abbrev pub document_of : List ℕ → Option (List ℕ)
document_of target =
    option_map (λ s. compact_text (document_tree s (query_in target))) (service_at (path_in target))
