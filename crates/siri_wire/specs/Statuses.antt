-- The tables of the messages by which producer and subscribers learn that the producer is there (EN 15531-2): a line a row.
use Rattle.std.specs.Prelude.{[], ◌∷◌, true, Result}
use Rattle.serde_json.specs.Data.{Data}
use Rattle.siri_messages.specs.declared.statuses.CheckStatusRequest.{CheckStatusRequest}
use Rattle.siri_messages.specs.declared.statuses.CheckStatusResponse.{CheckStatusResponse}
use Rattle.siri_messages.specs.declared.statuses.HeartbeatNotification.{HeartbeatNotification}
use Rattle.siri_tables.specs.Refusals.{Refusal}
use Rattle.siri_tables.specs.Tables.{optional, a_name, a_moment, a_flag, Table, Maker, read_all, all_written}
use Rattle.siri_tables.specs.Writing.{row_object}
use Rattle.siri_deliveries.specs.declared.names.TheConstants.{REQUEST_TIMESTAMP, RESPONSE_TIMESTAMP, REQUESTOR_REF, MESSAGE_IDENTIFIER}
use Rattle.siri_deliveries.specs.declared.names.TheConstants.{PRODUCER_REF, REQUEST_MESSAGE_REF, STATUS, SERVICE_STARTED_TIME}
use Rattle.siri_deliveries.specs.Rows.{with_default}

-- CheckStatusRequest: a question whether the producer is there
abbrev pub check_table : Table CheckStatusRequest
check_table =
    optional a_moment REQUEST_TIMESTAMP.now (λ c. c.request_timestamp) ∷
    optional a_name REQUESTOR_REF.now (λ c. c.requestor_ref) ∷
    optional a_name MESSAGE_IDENTIFIER.now (λ c. c.message_identifier) ∷ []

abbrev pub make_check : Maker check_table
make_check = λ request_timestamp requestor_ref message_identifier.
    record {
      request_timestamp = request_timestamp;
      requestor_ref = requestor_ref;
      message_identifier = message_identifier;
    }

unfoldable pub check_status_request : Data → Result CheckStatusRequest Refusal
check_status_request d = read_all check_table make_check d

unfoldable pub written_check_status : CheckStatusRequest → Data
written_check_status c = row_object (all_written check_table c)

-- CheckStatusResponse: the producer's answer
abbrev pub check_response_table : Table CheckStatusResponse
check_response_table =
    optional a_moment RESPONSE_TIMESTAMP.now (λ c. c.response_timestamp) ∷
    optional a_name PRODUCER_REF.now (λ c. c.producer_ref) ∷
    optional a_name REQUEST_MESSAGE_REF.now (λ c. c.request_message_ref) ∷
    with_default a_flag true STATUS.now (λ c. c.status) ∷
    optional a_moment SERVICE_STARTED_TIME.now (λ c. c.service_started_time) ∷ []

abbrev pub make_check_response : Maker check_response_table
make_check_response =
    λ response_timestamp producer_ref request_message_ref status service_started_time.
    record {
      response_timestamp = response_timestamp;
      producer_ref = producer_ref;
      request_message_ref = request_message_ref;
      status = status;
      service_started_time = service_started_time;
    }

unfoldable pub check_status_response : Data → Result CheckStatusResponse Refusal
check_status_response d = read_all check_response_table make_check_response d

unfoldable pub written_status_response : CheckStatusResponse → Data
written_status_response c = row_object (all_written check_response_table c)

-- HeartbeatNotification: the producer tells that it is there
abbrev pub heartbeat_table : Table HeartbeatNotification
heartbeat_table =
    optional a_moment REQUEST_TIMESTAMP.now (λ h. h.request_timestamp) ∷
    optional a_name PRODUCER_REF.now (λ h. h.producer_ref) ∷
    with_default a_flag true STATUS.now (λ h. h.status) ∷
    optional a_moment SERVICE_STARTED_TIME.now (λ h. h.service_started_time) ∷ []

abbrev pub make_heartbeat : Maker heartbeat_table
make_heartbeat =
    λ request_timestamp producer_ref status service_started_time.
    record { request_timestamp = request_timestamp; producer_ref = producer_ref; status = status; service_started_time = service_started_time }

unfoldable pub heartbeat_notification : Data → Result HeartbeatNotification Refusal
heartbeat_notification d = read_all heartbeat_table make_heartbeat d

unfoldable pub written_heartbeat : HeartbeatNotification → Data
written_heartbeat h = row_object (all_written heartbeat_table h)
