-- Deliveries and requests of which nothing is said (EN 15531-2): what a message is made from where few of its members are told.
use Rattle.std.specs.Prelude.{ℕ, true, false, [], None}
use Rattle.siri_messages.specs.declared.deliveries.FunctionalDelivery.{FunctionalDelivery}
use Rattle.siri_messages.specs.declared.deliveries.ServiceDelivery.{ServiceDelivery}
use Rattle.siri_messages.specs.declared.subscriptions.SubscriptionRequest.{SubscriptionRequest}

-- a delivery of no service
abbrev pub blank_service_delivery : ServiceDelivery
blank_service_delivery = record {
  response_timestamp = None;
  producer_ref = None;
  response_message_identifier = None;
  request_message_ref = None;
  status = true;
  error_condition = None;
  more_data = false;
  stop_monitoring_delivery = [];
  estimated_timetable_delivery = [];
  vehicle_monitoring_delivery = [];
  situation_exchange_delivery = [];
}

-- a delivery of one service, of no round, with nothing in it
abbrev pub blank_functional_delivery : FunctionalDelivery
blank_functional_delivery = record {
  response_timestamp = None;
  subscriber_ref = None;
  subscription_ref = None;
  status = true;
  error_condition = None;
  start = None;
  round = None;
  part = None;
  items = [];
  removals = [];
}

-- a request for no subscription, under a number
abbrev pub blank_subscription_request : ℕ → SubscriptionRequest
blank_subscription_request number = record {
  request_timestamp = None;
  requestor_ref = None;
  message_identifier = number;
  consumer_address = None;
  heartbeat_interval = None;
  stop_monitoring_subscription_request = [];
  estimated_timetable_subscription_request = [];
  vehicle_monitoring_subscription_request = [];
  situation_exchange_subscription_request = [];
}
