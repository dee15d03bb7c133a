-- The tables of the messages by which rounds are announced, fetched and acknowledged (EN 15531-2). Their Extensions hold a
-- mark, which is this profile's own.
use Rattle.std.specs.Prelude.{[], ◌∷◌, Bool, true, ◌&&◌, if◌then◌else◌, Option, Some, None, Result, Ok}
use Rattle.serde_json.specs.Data.{Data}
use Rattle.siri_json.specs.Values.{object_in}
use Rattle.siri_messages.specs.declared.supplies.Mark.{Mark}
use Rattle.siri_messages.specs.declared.supplies.DataReadyNotification.{DataReadyNotification}
use Rattle.siri_messages.specs.declared.supplies.DataReadyAcknowledgement.{DataReadyAcknowledgement}
use Rattle.siri_messages.specs.declared.supplies.DataSupplyRequest.{DataSupplyRequest}
use Rattle.siri_messages.specs.declared.supplies.DataReceivedAcknowledgement.{DataReceivedAcknowledgement}
use Rattle.siri_tables.specs.Refusals.{Refusal, ◌>>=◌}
use Rattle.siri_tables.specs.Rules.{table, unless_wrong, maybe}
use Rattle.siri_tables.specs.Tables.{Kind, optional, mandatory, a_name, a_moment, a_number, a_flag, Table, Maker, read_all, AllProper, all_written}
use Rattle.siri_tables.specs.Writing.{row_object}
use Rattle.siri_deliveries.specs.Rows.{an_error, with_default, flag_where_true}
use Rattle.siri_deliveries.specs.Absence.{lacks}
use Rattle.siri_deliveries.specs.declared.names.TheConstants.{SUBSCRIPTION_REF, NUMBER, START, ROUND, PART, REQUEST_TIMESTAMP}
use Rattle.siri_deliveries.specs.declared.names.TheConstants.{RESPONSE_TIMESTAMP, PRODUCER_REF, CONSUMER_REF, REQUEST_MESSAGE_REF, STATUS}
use Rattle.siri_deliveries.specs.declared.names.TheConstants.{ERROR_CONDITION, ALL_DATA, EXTENSIONS}

-- a mark in Extensions: which part of which round of a subscription is meant
abbrev pub mark_table : Table Mark
mark_table =
    mandatory a_name SUBSCRIPTION_REF.now (λ m. m.subscription) ∷
    mandatory a_number NUMBER.now (λ m. m.number) ∷
    mandatory a_number START.now (λ m. m.start) ∷
    mandatory a_number ROUND.now (λ m. m.round) ∷
    mandatory a_number PART.now (λ m. m.part) ∷ []

unfoldable pub written_mark : Mark → Option Data
written_mark m = Some (row_object (all_written mark_table m))

abbrev pub make_mark : Maker mark_table
make_mark = λ subscription number start round part. record { number = number; start = start; round = round; part = part; subscription = subscription }

-- Mark: which part of which round of a subscription is meant
unfoldable pub mark : Data → Result Mark Refusal
mark d = read_all mark_table make_mark d

abbrev pub a_mark : Kind Mark
a_mark = record { rule = table mark; writing = written_mark; Is = AllProper mark_table }

-- ---- a mark that need not be there

-- all its rows are absent
unfoldable pub lacks_mark : Data → Bool
lacks_mark d = lacks SUBSCRIPTION_REF.now d && lacks NUMBER.now d && lacks START.now d && lacks ROUND.now d && lacks PART.now d

unfoldable pub mark_if_any : Data → Result (Option Mark) Refusal
mark_if_any d = if lacks_mark d then Ok None else mark d >>= λ m. Ok (Some m)

-- a mark, which counts as absent where all its rows are
unfoldable pub optional_mark : Data → Result (Option Mark) Refusal
optional_mark d = unless_wrong (object_in d) >>= maybe mark_if_any

abbrev pub an_optional_mark : Kind Mark
an_optional_mark = record { rule = optional_mark; writing = written_mark; Is = AllProper mark_table }

-- ---- the messages

-- DataReadyNotification: a part of a round is ready
abbrev pub ready_table : Table DataReadyNotification
ready_table =
    optional a_moment REQUEST_TIMESTAMP.now (λ n. n.request_timestamp) ∷
    optional a_name PRODUCER_REF.now (λ n. n.producer_ref) ∷
    mandatory a_mark EXTENSIONS.now (λ n. n.extensions) ∷ []

abbrev pub make_ready : Maker ready_table
make_ready = λ request_timestamp producer_ref extensions. record { request_timestamp = request_timestamp; producer_ref = producer_ref; extensions = extensions }

unfoldable pub data_ready_notification : Data → Result DataReadyNotification Refusal
data_ready_notification d = read_all ready_table make_ready d

unfoldable pub written_data_ready : DataReadyNotification → Data
written_data_ready n = row_object (all_written ready_table n)

-- DataReadyAcknowledgement: the notification was taken
abbrev pub ready_acknowledgement_table : Table DataReadyAcknowledgement
ready_acknowledgement_table =
    optional a_moment RESPONSE_TIMESTAMP.now (λ a. a.response_timestamp) ∷
    optional a_name CONSUMER_REF.now (λ a. a.consumer_ref) ∷
    with_default a_flag true STATUS.now (λ a. a.status) ∷ []

abbrev pub make_ready_acknowledgement : Maker ready_acknowledgement_table
make_ready_acknowledgement = λ response_timestamp consumer_ref status.
    record { response_timestamp = response_timestamp; consumer_ref = consumer_ref; status = status }

unfoldable pub data_ready_acknowledgement : Data → Result DataReadyAcknowledgement Refusal
data_ready_acknowledgement d = read_all ready_acknowledgement_table make_ready_acknowledgement d

unfoldable pub written_ready_acknowledgement : DataReadyAcknowledgement → Data
written_ready_acknowledgement a = row_object (all_written ready_acknowledgement_table a)

-- DataSupplyRequest: a part of a round is fetched, or all of a subscription
abbrev pub supply_table : Table DataSupplyRequest
supply_table =
    optional a_moment REQUEST_TIMESTAMP.now (λ s. s.request_timestamp) ∷
    mandatory a_name CONSUMER_REF.now (λ s. s.consumer_ref) ∷
    flag_where_true ALL_DATA.now (λ s. s.all_data) ∷
    mandatory a_mark EXTENSIONS.now (λ s. s.extensions) ∷ []

abbrev pub make_supply : Maker supply_table
make_supply = λ request_timestamp consumer_ref all_data extensions.
    record {
      request_timestamp = request_timestamp;
      consumer_ref = consumer_ref;
      all_data = all_data;
      extensions = extensions;
    }

unfoldable pub data_supply_request : Data → Result DataSupplyRequest Refusal
data_supply_request d = read_all supply_table make_supply d

unfoldable pub written_supply : DataSupplyRequest → Data
written_supply s = row_object (all_written supply_table s)

-- DataReceivedAcknowledgement: a delivery was taken
abbrev pub received_table : Table DataReceivedAcknowledgement
received_table =
    optional a_moment RESPONSE_TIMESTAMP.now (λ a. a.response_timestamp) ∷
    optional a_name CONSUMER_REF.now (λ a. a.consumer_ref) ∷
    optional a_name REQUEST_MESSAGE_REF.now (λ a. a.request_message_ref) ∷
    with_default a_flag true STATUS.now (λ a. a.status) ∷
    optional an_error ERROR_CONDITION.now (λ a. a.error_condition) ∷
    optional an_optional_mark EXTENSIONS.now (λ a. a.extensions) ∷ []

abbrev pub make_received : Maker received_table
make_received =
    λ response_timestamp consumer_ref request_message_ref status error_condition extensions.
    record {
      response_timestamp = response_timestamp;
      consumer_ref = consumer_ref;
      request_message_ref = request_message_ref;
      status = status;
      error_condition = error_condition;
      extensions = extensions;
    }

unfoldable pub data_received_acknowledgement : Data → Result DataReceivedAcknowledgement Refusal
data_received_acknowledgement d = read_all received_table make_received d

unfoldable pub written_received : DataReceivedAcknowledgement → Data
written_received a = row_object (all_written received_table a)
