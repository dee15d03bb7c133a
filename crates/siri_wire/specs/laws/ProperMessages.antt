-- Proper messages: those that a document in the one form can say.
use Rattle.siri_messages.specs.declared.message.Message.{Message}
use Rattle.siri_messages.specs.declared.message.Message.TheVariants as message
use Rattle.siri_tables.specs.Tables.{AllProper}
use Rattle.siri_wire.specs.Supplies.{ready_table, ready_acknowledgement_table, supply_table, received_table}
use Rattle.siri_wire.specs.Statuses.{check_table, check_response_table, heartbeat_table}
use Rattle.siri_wire.specs.laws.ProperDeliveries.{IsProperServiceDelivery}
use Rattle.siri_wire.specs.laws.ProperRequests.{IsProperServiceRequest, IsProperSubscriptionRequest, IsProperSubscriptionResponse}
use Rattle.siri_wire.specs.laws.ProperRequests.{IsProperTerminationRequest, IsProperTerminationResponse}

abbrev pub IsProper : Message → Type 0
IsProper (message.ServiceRequest m) = IsProperServiceRequest m
IsProper (message.ServiceDelivery m) = IsProperServiceDelivery m
IsProper (message.SubscriptionRequest m) = IsProperSubscriptionRequest m
IsProper (message.SubscriptionResponse m) = IsProperSubscriptionResponse m
IsProper (message.TerminateSubscriptionRequest m) = IsProperTerminationRequest m
IsProper (message.TerminateSubscriptionResponse m) = IsProperTerminationResponse m
IsProper (message.DataReadyNotification m) = AllProper ready_table m
IsProper (message.DataReadyAcknowledgement m) = AllProper ready_acknowledgement_table m
IsProper (message.DataSupplyRequest m) = AllProper supply_table m
IsProper (message.DataReceivedAcknowledgement m) = AllProper received_table m
IsProper (message.CheckStatusRequest m) = AllProper check_table m
IsProper (message.CheckStatusResponse m) = AllProper check_response_table m
IsProper (message.HeartbeatNotification m) = AllProper heartbeat_table m
