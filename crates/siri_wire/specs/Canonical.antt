-- The one text of a message: its tree, compact, members in byte order of their names.
use Rattle.std.specs.Prelude.{ℕ, List, [], ◌∷◌, Some}
use Rattle.serde_json.specs.Data.{Data}
use Rattle.serde_json.specs.Written.{compact_text}
use Rattle.siri_messages.specs.declared.message.Message.{Message}
use Rattle.siri_messages.specs.declared.message.Message.TheVariants as message
use Rattle.siri_messages.specs.Kinds.{kind_of}
use Rattle.siri_tables.specs.Writing.{row_object}
use Rattle.siri_deliveries.specs.declared.names.TheConstants.{SIRI}
use Rattle.siri_wire.specs.Requests.{written_service_request}
use Rattle.siri_wire.specs.Supplies.{written_data_ready, written_ready_acknowledgement, written_supply, written_received}
use Rattle.siri_wire.specs.Statuses.{written_check_status, written_status_response, written_heartbeat}
use Rattle.siri_deliveries.specs.Deliveries.{written_service_delivery}
use Rattle.siri_wire.specs.Subscriptions.{written_subscription_request, written_subscription_response}
use Rattle.siri_wire.specs.Terminations.{written_termination, written_termination_response}

-- a message's own object
unfoldable pub written_body : Message → Data
written_body (message.ServiceRequest m) = written_service_request m
written_body (message.ServiceDelivery m) = written_service_delivery m
written_body (message.SubscriptionRequest m) = written_subscription_request m
written_body (message.SubscriptionResponse m) = written_subscription_response m
written_body (message.TerminateSubscriptionRequest m) = written_termination m
written_body (message.TerminateSubscriptionResponse m) = written_termination_response m
written_body (message.DataReadyNotification m) = written_data_ready m
written_body (message.DataReadyAcknowledgement m) = written_ready_acknowledgement m
written_body (message.DataSupplyRequest m) = written_supply m
written_body (message.DataReceivedAcknowledgement m) = written_received m
written_body (message.CheckStatusRequest m) = written_check_status m
written_body (message.CheckStatusResponse m) = written_status_response m
written_body (message.HeartbeatNotification m) = written_heartbeat m

-- a document's tree: the message under its name, in the object `Siri`
unfoldable pub written_message : Message → Data
written_message m = row_object ((SIRI.now, Some (row_object ((kind_of m, Some (written_body m)) ∷ []))) ∷ [])

unfoldable pub canonical : Message → List ℕ
canonical m = compact_text (written_message m)
