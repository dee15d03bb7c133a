-- What carries a part of a subscription's round to its consumer, announces it, or says that there is none, and what a request
-- for all of a subscription is answered (EN 15531-2, ServiceDelivery, DataReadyNotification). All messages of a round carry the moment at which it began.
use Rattle.std.specs.Prelude.{ℕ, List, [], ◌∷◌, true, false, Option, Some, None, is_none, option_map}
use Rattle.siri_topic.specs.declared.subscription.Subscription.{Subscription}
use Rattle.siri_topic.specs.declared.topics.Topic.{Topic}
use Rattle.siri_topic.specs.declared.topics.Topic.TheVariants as topic
use Rattle.siri_messages.specs.declared.deliveries.ServiceDelivery.{ServiceDelivery}
use Rattle.siri_messages.specs.declared.deliveries.FunctionalDelivery.{FunctionalDelivery}
use Rattle.siri_messages.specs.declared.supplies.DataReadyNotification.{DataReadyNotification}
use Rattle.siri_subs.specs.declared.rounds.answers.SupplyError.{SupplyError}
use Rattle.siri_subs.specs.rounds.Wanted.{WantedPart}
use Rattle.siri_subscriptions.specs.declared.replies.refusal.Refusal.{Refusal}
use Rattle.siri_subscriptions.specs.replies.Refusals.{refusal_text, not_supplied_as}
use Rattle.siri_subscriptions.specs.replies.Responses.{number_text}

-- ---- the service of a topic: a functional delivery stands in the list of its own

abbrev pub in_stop_monitoring : Topic → FunctionalDelivery → List FunctionalDelivery
in_stop_monitoring (topic.Stop t) delivery = delivery ∷ []
in_stop_monitoring (topic.Timetable t) delivery = []
in_stop_monitoring (topic.Vehicle t) delivery = []
in_stop_monitoring (topic.Situation t) delivery = []

abbrev pub in_estimated_timetable : Topic → FunctionalDelivery → List FunctionalDelivery
in_estimated_timetable (topic.Stop t) delivery = []
in_estimated_timetable (topic.Timetable t) delivery = delivery ∷ []
in_estimated_timetable (topic.Vehicle t) delivery = []
in_estimated_timetable (topic.Situation t) delivery = []

abbrev pub in_vehicle_monitoring : Topic → FunctionalDelivery → List FunctionalDelivery
in_vehicle_monitoring (topic.Stop t) delivery = []
in_vehicle_monitoring (topic.Timetable t) delivery = []
in_vehicle_monitoring (topic.Vehicle t) delivery = delivery ∷ []
in_vehicle_monitoring (topic.Situation t) delivery = []

abbrev pub in_situation_exchange : Topic → FunctionalDelivery → List FunctionalDelivery
in_situation_exchange (topic.Stop t) delivery = []
in_situation_exchange (topic.Timetable t) delivery = []
in_situation_exchange (topic.Vehicle t) delivery = []
in_situation_exchange (topic.Situation t) delivery = delivery ∷ []

-- ---- a part

-- the functional delivery of a part, in a start of the producer: the round's moment, whose subscription it is, Start, Round
-- and Part, items and removals
unfoldable pub part_functional : Subscription → (start : ℕ) → WantedPart → FunctionalDelivery
part_functional wanted start part = record {
  response_timestamp = Some part.moment;
  subscriber_ref = Some wanted.subscriber;
  subscription_ref = Some wanted.identifier;
  status = true;
  error_condition = None;
  start = Some start;
  round = Some part.place.round;
  part = Some part.place.part;
  items = part.carried.items;
  removals = part.carried.removals;
}

-- the delivery of a part by a producer of this name: one functional delivery, of the topic's service; RequestMessageRef is
-- the subscription's number; MoreData where another part follows
unfoldable pub part_delivery : (producer : List ℕ) → Subscription → (number start : ℕ) → WantedPart → ServiceDelivery
part_delivery producer wanted number start part = record {
  response_timestamp = Some part.moment;
  producer_ref = Some producer;
  response_message_identifier = None;
  request_message_ref = Some (number_text number);
  status = true;
  error_condition = None;
  more_data = part.more;
  stop_monitoring_delivery = in_stop_monitoring wanted.topic (part_functional wanted start part);
  estimated_timetable_delivery = in_estimated_timetable wanted.topic (part_functional wanted start part);
  vehicle_monitoring_delivery = in_vehicle_monitoring wanted.topic (part_functional wanted start part);
  situation_exchange_delivery = in_situation_exchange wanted.topic (part_functional wanted start part);
}

-- the notification of a part, which the consumer is to fetch: its mark names the subscription, its number, the start, round
-- and part
unfoldable pub part_notification : (producer : List ℕ) → Subscription → (number start : ℕ) → WantedPart → DataReadyNotification
part_notification producer wanted number start part = record {
  request_timestamp = Some part.moment;
  producer_ref = Some producer;
  extensions = record {
    number = number;
    start = start;
    round = part.place.round;
    part = part.place.part;
    subscription = wanted.identifier;
  };
}

-- the answer at a moment to a request for a part that isn't supplied: Status false, and no functional delivery
unfoldable pub refused_supply : (producer : List ℕ) → (now : ℕ) → SupplyError → ServiceDelivery
refused_supply producer now why = record {
  response_timestamp = Some now;
  producer_ref = Some producer;
  response_message_identifier = None;
  request_message_ref = None;
  status = false;
  error_condition = Some (refusal_text (not_supplied_as why));
  more_data = false;
  stop_monitoring_delivery = [];
  estimated_timetable_delivery = [];
  vehicle_monitoring_delivery = [];
  situation_exchange_delivery = [];
}

-- ---- all of a subscription

-- the answer at a moment to a request for all of a subscription under a number: no functional delivery, and MoreData, since
-- the parts are delivered by themselves; where it is refused, Status false
unfoldable pub all_data_response : (producer : List ℕ) → (now number : ℕ) → (why : Option Refusal) → ServiceDelivery
all_data_response producer now number why = record {
  response_timestamp = Some now;
  producer_ref = Some producer;
  response_message_identifier = None;
  request_message_ref = Some (number_text number);
  status = is_none why;
  error_condition = option_map refusal_text why;
  more_data = is_none why;
  stop_monitoring_delivery = [];
  estimated_timetable_delivery = [];
  vehicle_monitoring_delivery = [];
  situation_exchange_delivery = [];
}
