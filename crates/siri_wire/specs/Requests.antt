-- The table of requests that are answered at once: a line a row.
use Rattle.std.specs.Prelude.{[], ◌∷◌, length, ◌==◌, ◌&&◌, Bool, if◌then◌else◌, Result, Ok}
use Rattle.serde_json.specs.Data.{Data}
use Rattle.siri_base.specs.declared.reason.Reason.TheVariants.{NotCarried}
use Rattle.siri_records.specs.declared.item.Service.TheVariants as service
use Rattle.siri_messages.specs.declared.requests.ServiceRequest.{ServiceRequest}
use Rattle.siri_tables.specs.Refusals.{Refusal, ◌>>=◌, refused}
use Rattle.siri_tables.specs.Tables.{optional, a_name, a_moment, Table, Maker, read_all, all_written}
use Rattle.siri_tables.specs.Writing.{row_object}
use Rattle.siri_deliveries.specs.declared.names.TheConstants.{REQUEST_TIMESTAMP, REQUESTOR_REF, MESSAGE_IDENTIFIER, STOP_MONITORING_REQUEST}
use Rattle.siri_deliveries.specs.declared.names.TheConstants.{ESTIMATED_TIMETABLE_REQUEST, VEHICLE_MONITORING_REQUEST}
use Rattle.siri_deliveries.specs.declared.names.TheConstants.{SITUATION_EXCHANGE_REQUEST}
use Rattle.siri_deliveries.specs.Rows.{entries}
use Rattle.siri_deliveries.specs.Topics.{a_topic}

-- ServiceRequest: a request for what is shown to some topics now (EN 15531-2)
abbrev pub service_request_table : Table ServiceRequest
service_request_table =
    optional a_moment REQUEST_TIMESTAMP.now (λ m. m.request_timestamp) ∷
    optional a_name REQUESTOR_REF.now (λ m. m.requestor_ref) ∷
    optional a_name MESSAGE_IDENTIFIER.now (λ m. m.message_identifier) ∷
    entries (a_topic service.Stop) 100 STOP_MONITORING_REQUEST.now (λ m. m.stop_monitoring_request) ∷
    entries (a_topic service.Timetable) 100 ESTIMATED_TIMETABLE_REQUEST.now (λ m. m.estimated_timetable_request) ∷
    entries (a_topic service.Vehicle) 100 VEHICLE_MONITORING_REQUEST.now (λ m. m.vehicle_monitoring_request) ∷
    entries (a_topic service.Situation) 100 SITUATION_EXCHANGE_REQUEST.now (λ m. m.situation_exchange_request) ∷ []

abbrev pub make_service_request : Maker service_request_table
make_service_request =
    λ request_timestamp requestor_ref message_identifier stop_monitoring_request estimated_timetable_request vehicle_monitoring_request situation_exchange_request.
    record {
      request_timestamp = request_timestamp;
      requestor_ref = requestor_ref;
      message_identifier = message_identifier;
      stop_monitoring_request = stop_monitoring_request;
      estimated_timetable_request = estimated_timetable_request;
      vehicle_monitoring_request = vehicle_monitoring_request;
      situation_exchange_request = situation_exchange_request;
    }

unfoldable pub read_service_request_rows : Data → Result ServiceRequest Refusal
read_service_request_rows d = read_all service_request_table make_service_request d

unfoldable pub written_service_request : ServiceRequest → Data
written_service_request m = row_object (all_written service_request_table m)

-- no topic is asked for
abbrev pub asks_nothing : ServiceRequest → Bool
asks_nothing m =
    length m.stop_monitoring_request == 0
    && length m.estimated_timetable_request == 0
    && length m.vehicle_monitoring_request == 0
    && length m.situation_exchange_request == 0

-- a request for nothing isn't carried
abbrev pub unless_for_nothing : ServiceRequest → Result ServiceRequest Refusal
unless_for_nothing m = if asks_nothing m then refused NotCarried else Ok m

-- the same, which asks for something
unfoldable pub service_request : Data → Result ServiceRequest Refusal
service_request d = read_service_request_rows d >>= unless_for_nothing
