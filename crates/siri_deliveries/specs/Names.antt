-- How documents spell the names of members that messages have besides those of items, and the names of messages
-- themselves (EN 15531-2, EN 15531-3, CEN/TS 15531-5; Extensions and what stands in them are this profile's own): a row
-- a name. The tables name their members by the constants on the left.
use Rattle.std.specs.Prelude.{◌≡◌, codes}
use Rattle.siri_deliveries.specs.declared.names.TheConstants.{REQUEST_TIMESTAMP, RESPONSE_TIMESTAMP, REQUESTOR_REF}
use Rattle.siri_deliveries.specs.declared.names.TheConstants.{MESSAGE_IDENTIFIER}
use Rattle.siri_deliveries.specs.declared.names.TheConstants.{STOP_MONITORING_REQUEST, ESTIMATED_TIMETABLE_REQUEST}
use Rattle.siri_deliveries.specs.declared.names.TheConstants.{VEHICLE_MONITORING_REQUEST, SITUATION_EXCHANGE_REQUEST}
use Rattle.siri_deliveries.specs.declared.names.TheConstants.{PRODUCER_REF}
use Rattle.siri_deliveries.specs.declared.names.TheConstants.{RESPONSE_MESSAGE_IDENTIFIER, REQUEST_MESSAGE_REF, STATUS}
use Rattle.siri_deliveries.specs.declared.names.TheConstants.{ERROR_CONDITION}
use Rattle.siri_deliveries.specs.declared.names.TheConstants.{OTHER_ERROR, ERROR_TEXT, MORE_DATA}
use Rattle.siri_deliveries.specs.declared.names.TheConstants.{STOP_MONITORING_DELIVERY}
use Rattle.siri_deliveries.specs.declared.names.TheConstants.{ESTIMATED_TIMETABLE_DELIVERY, VEHICLE_MONITORING_DELIVERY}
use Rattle.siri_deliveries.specs.declared.names.TheConstants.{SITUATION_EXCHANGE_DELIVERY, CONSUMER_ADDRESS}
use Rattle.siri_deliveries.specs.declared.names.TheConstants.{SUBSCRIPTION_CONTEXT}
use Rattle.siri_deliveries.specs.declared.names.TheConstants.{HEARTBEAT_INTERVAL, STOP_MONITORING_SUBSCRIPTION_REQUEST}
use Rattle.siri_deliveries.specs.declared.names.TheConstants.{ESTIMATED_TIMETABLE_SUBSCRIPTION_REQUEST}
use Rattle.siri_deliveries.specs.declared.names.TheConstants.{VEHICLE_MONITORING_SUBSCRIPTION_REQUEST}
use Rattle.siri_deliveries.specs.declared.names.TheConstants.{SITUATION_EXCHANGE_SUBSCRIPTION_REQUEST, RESPONSE_STATUS}
use Rattle.siri_deliveries.specs.declared.names.TheConstants.{SUBSCRIBER_REF}
use Rattle.siri_deliveries.specs.declared.names.TheConstants.{SUBSCRIPTION_REF, VALID_UNTIL}
use Rattle.siri_deliveries.specs.declared.names.TheConstants.{TERMINATION_RESPONSE_STATUS, EXTENSIONS}
use Rattle.siri_deliveries.specs.declared.names.TheConstants.{NUMBER, START, ROUND, PART, CONSUMER_REF, ALL_DATA}
use Rattle.siri_deliveries.specs.declared.names.TheConstants.{SERVICE_STARTED_TIME}
use Rattle.siri_deliveries.specs.declared.names.TheConstants.{REMOVED, MONITORED_STOP_VISIT}
use Rattle.siri_deliveries.specs.declared.names.TheConstants.{MONITORED_STOP_VISIT_CANCELLATION}
use Rattle.siri_deliveries.specs.declared.names.TheConstants.{ESTIMATED_JOURNEY_VERSION_FRAME}
use Rattle.siri_deliveries.specs.declared.names.TheConstants.{ESTIMATED_VEHICLE_JOURNEY, VEHICLE_ACTIVITY}
use Rattle.siri_deliveries.specs.declared.names.TheConstants.{VEHICLE_ACTIVITY_CANCELLATION, SITUATIONS}
use Rattle.siri_deliveries.specs.declared.names.TheConstants.{PT_SITUATION_ELEMENT, ITEM_REF}
use Rattle.siri_deliveries.specs.declared.names.TheConstants.{SUBSCRIPTION_IDENTIFIER, INITIAL_TERMINATION_TIME}
use Rattle.siri_deliveries.specs.declared.names.TheConstants.{INCREMENTAL_UPDATES}
use Rattle.siri_deliveries.specs.declared.names.TheConstants.{CHANGE_BEFORE_UPDATES, DELIVERY_METHOD, PREVIEW_INTERVAL}
use Rattle.siri_deliveries.specs.declared.names.TheConstants.{MAXIMUM_STOP_VISITS}
use Rattle.siri_deliveries.specs.declared.names.TheConstants.{LINES, LINE_DIRECTION, SIRI, SERVICE_REQUEST}
use Rattle.siri_deliveries.specs.declared.names.TheConstants.{SERVICE_DELIVERY}
use Rattle.siri_deliveries.specs.declared.names.TheConstants.{SUBSCRIPTION_REQUEST, SUBSCRIPTION_RESPONSE}
use Rattle.siri_deliveries.specs.declared.names.TheConstants.{TERMINATE_SUBSCRIPTION_REQUEST}
use Rattle.siri_deliveries.specs.declared.names.TheConstants.{TERMINATE_SUBSCRIPTION_RESPONSE, DATA_READY_NOTIFICATION}
use Rattle.siri_deliveries.specs.declared.names.TheConstants.{DATA_READY_ACKNOWLEDGEMENT, DATA_SUPPLY_REQUEST}
use Rattle.siri_deliveries.specs.declared.names.TheConstants.{DATA_RECEIVED_ACKNOWLEDGEMENT, CHECK_STATUS_REQUEST}
use Rattle.siri_deliveries.specs.declared.names.TheConstants.{CHECK_STATUS_RESPONSE}
use Rattle.siri_deliveries.specs.declared.names.TheConstants.{HEARTBEAT_NOTIFICATION}

abbrev pub MembersAreSpelled : Type 0
MembersAreSpelled =
    (REQUEST_TIMESTAMP.now ≡ codes "RequestTimestamp") ×
    (RESPONSE_TIMESTAMP.now ≡ codes "ResponseTimestamp") ×
    (REQUESTOR_REF.now ≡ codes "RequestorRef") ×
    (MESSAGE_IDENTIFIER.now ≡ codes "MessageIdentifier") ×
    (STOP_MONITORING_REQUEST.now ≡ codes "StopMonitoringRequest") ×
    (ESTIMATED_TIMETABLE_REQUEST.now ≡ codes "EstimatedTimetableRequest") ×
    (VEHICLE_MONITORING_REQUEST.now ≡ codes "VehicleMonitoringRequest") ×
    (SITUATION_EXCHANGE_REQUEST.now ≡ codes "SituationExchangeRequest") ×
    (PRODUCER_REF.now ≡ codes "ProducerRef") ×
    (RESPONSE_MESSAGE_IDENTIFIER.now ≡ codes "ResponseMessageIdentifier") ×
    (REQUEST_MESSAGE_REF.now ≡ codes "RequestMessageRef") ×
    (STATUS.now ≡ codes "Status") ×
    (ERROR_CONDITION.now ≡ codes "ErrorCondition") ×
    (OTHER_ERROR.now ≡ codes "OtherError") ×
    (ERROR_TEXT.now ≡ codes "ErrorText") ×
    (MORE_DATA.now ≡ codes "MoreData") ×
    (STOP_MONITORING_DELIVERY.now ≡ codes "StopMonitoringDelivery") ×
    (ESTIMATED_TIMETABLE_DELIVERY.now ≡ codes "EstimatedTimetableDelivery") ×
    (VEHICLE_MONITORING_DELIVERY.now ≡ codes "VehicleMonitoringDelivery") ×
    (SITUATION_EXCHANGE_DELIVERY.now ≡ codes "SituationExchangeDelivery") ×
    (CONSUMER_ADDRESS.now ≡ codes "ConsumerAddress") ×
    (SUBSCRIPTION_CONTEXT.now ≡ codes "SubscriptionContext") ×
    (HEARTBEAT_INTERVAL.now ≡ codes "HeartbeatInterval") ×
    (STOP_MONITORING_SUBSCRIPTION_REQUEST.now ≡ codes "StopMonitoringSubscriptionRequest") ×
    (ESTIMATED_TIMETABLE_SUBSCRIPTION_REQUEST.now ≡ codes "EstimatedTimetableSubscriptionRequest") ×
    (VEHICLE_MONITORING_SUBSCRIPTION_REQUEST.now ≡ codes "VehicleMonitoringSubscriptionRequest") ×
    (SITUATION_EXCHANGE_SUBSCRIPTION_REQUEST.now ≡ codes "SituationExchangeSubscriptionRequest") ×
    (RESPONSE_STATUS.now ≡ codes "ResponseStatus") ×
    (SUBSCRIBER_REF.now ≡ codes "SubscriberRef") ×
    (SUBSCRIPTION_REF.now ≡ codes "SubscriptionRef") ×
    (VALID_UNTIL.now ≡ codes "ValidUntil") ×
    (TERMINATION_RESPONSE_STATUS.now ≡ codes "TerminationResponseStatus") ×
    (EXTENSIONS.now ≡ codes "Extensions") ×
    (NUMBER.now ≡ codes "Number") ×
    (START.now ≡ codes "Start") ×
    (ROUND.now ≡ codes "Round") ×
    (PART.now ≡ codes "Part") ×
    (CONSUMER_REF.now ≡ codes "ConsumerRef") ×
    (ALL_DATA.now ≡ codes "AllData") ×
    (SERVICE_STARTED_TIME.now ≡ codes "ServiceStartedTime") ×
    (REMOVED.now ≡ codes "Removed") ×
    (MONITORED_STOP_VISIT.now ≡ codes "MonitoredStopVisit") ×
    (MONITORED_STOP_VISIT_CANCELLATION.now ≡ codes "MonitoredStopVisitCancellation") ×
    (ESTIMATED_JOURNEY_VERSION_FRAME.now ≡ codes "EstimatedJourneyVersionFrame") ×
    (ESTIMATED_VEHICLE_JOURNEY.now ≡ codes "EstimatedVehicleJourney") ×
    (VEHICLE_ACTIVITY.now ≡ codes "VehicleActivity") ×
    (VEHICLE_ACTIVITY_CANCELLATION.now ≡ codes "VehicleActivityCancellation") ×
    (SITUATIONS.now ≡ codes "Situations") ×
    (PT_SITUATION_ELEMENT.now ≡ codes "PtSituationElement") ×
    (ITEM_REF.now ≡ codes "ItemRef") ×
    (SUBSCRIPTION_IDENTIFIER.now ≡ codes "SubscriptionIdentifier") ×
    (INITIAL_TERMINATION_TIME.now ≡ codes "InitialTerminationTime") ×
    (INCREMENTAL_UPDATES.now ≡ codes "IncrementalUpdates") ×
    (CHANGE_BEFORE_UPDATES.now ≡ codes "ChangeBeforeUpdates") ×
    (DELIVERY_METHOD.now ≡ codes "DeliveryMethod") ×
    (PREVIEW_INTERVAL.now ≡ codes "PreviewInterval") ×
    (MAXIMUM_STOP_VISITS.now ≡ codes "MaximumStopVisits") ×
    (LINES.now ≡ codes "Lines") ×
    (LINE_DIRECTION.now ≡ codes "LineDirection") ×
    (SIRI.now ≡ codes "Siri") ×
    (SERVICE_REQUEST.now ≡ codes "ServiceRequest") ×
    (SERVICE_DELIVERY.now ≡ codes "ServiceDelivery") ×
    (SUBSCRIPTION_REQUEST.now ≡ codes "SubscriptionRequest") ×
    (SUBSCRIPTION_RESPONSE.now ≡ codes "SubscriptionResponse") ×
    (TERMINATE_SUBSCRIPTION_REQUEST.now ≡ codes "TerminateSubscriptionRequest") ×
    (TERMINATE_SUBSCRIPTION_RESPONSE.now ≡ codes "TerminateSubscriptionResponse") ×
    (DATA_READY_NOTIFICATION.now ≡ codes "DataReadyNotification") ×
    (DATA_READY_ACKNOWLEDGEMENT.now ≡ codes "DataReadyAcknowledgement") ×
    (DATA_SUPPLY_REQUEST.now ≡ codes "DataSupplyRequest") ×
    (DATA_RECEIVED_ACKNOWLEDGEMENT.now ≡ codes "DataReceivedAcknowledgement") ×
    (CHECK_STATUS_REQUEST.now ≡ codes "CheckStatusRequest") ×
    (CHECK_STATUS_RESPONSE.now ≡ codes "CheckStatusResponse") ×
    (HEARTBEAT_NOTIFICATION.now ≡ codes "HeartbeatNotification")
