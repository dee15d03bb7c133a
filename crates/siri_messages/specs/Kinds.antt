-- Which message one is (EN 15531-2), and the name under which documents hold it.
use Rattle.std.specs.Prelude.{ℕ, List, codes, Option, Some, None}
use Rattle.siri_messages.specs.declared.deliveries.ServiceDelivery.{ServiceDelivery}
use Rattle.siri_messages.specs.declared.requests.ServiceRequest.{ServiceRequest}
use Rattle.siri_messages.specs.declared.message.Message.{Message}
use Rattle.siri_messages.specs.declared.message.Message.TheVariants as message

-- the name of a message
abbrev pub kind_of : Message → List ℕ
kind_of (message.ServiceRequest m) = codes "ServiceRequest"
kind_of (message.ServiceDelivery m) = codes "ServiceDelivery"
kind_of (message.SubscriptionRequest m) = codes "SubscriptionRequest"
kind_of (message.SubscriptionResponse m) = codes "SubscriptionResponse"
kind_of (message.TerminateSubscriptionRequest m) = codes "TerminateSubscriptionRequest"
kind_of (message.TerminateSubscriptionResponse m) = codes "TerminateSubscriptionResponse"
kind_of (message.DataReadyNotification m) = codes "DataReadyNotification"
kind_of (message.DataReadyAcknowledgement m) = codes "DataReadyAcknowledgement"
kind_of (message.DataSupplyRequest m) = codes "DataSupplyRequest"
kind_of (message.DataReceivedAcknowledgement m) = codes "DataReceivedAcknowledgement"
kind_of (message.CheckStatusRequest m) = codes "CheckStatusRequest"
kind_of (message.CheckStatusResponse m) = codes "CheckStatusResponse"
kind_of (message.HeartbeatNotification m) = codes "HeartbeatNotification"

-- the delivery, where it is one
abbrev pub service_delivery_of : Message → Option ServiceDelivery
service_delivery_of (message.ServiceDelivery delivery) = Some delivery
service_delivery_of other = None

-- the request for deliveries, where it is one
abbrev pub service_request_of : Message → Option ServiceRequest
service_request_of (message.ServiceRequest request) = Some request
service_request_of other = None
