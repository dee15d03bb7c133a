-- The direct response to a topic, and to a request (EN 15531-2, request and response).
use Rattle.std.specs.Prelude.{ℕ, List, [], map, filter, count_by, nat_lt, true, false, Option, Some, None}
use Rattle.std.specs.Ordering.{nat_cmp, on, then_cmp, is_lt}
use Rattle.std.specs.Option.{option_cmp}
use Rattle.std.specs.declared.cmp.Ordering.{Ordering}
use Rattle.siri_records.specs.declared.item.Item.{Item}
use Rattle.siri_records.specs.declared.key.Key.{Key}
use Rattle.siri_records.specs.Ends.{entry_of}
use Rattle.siri_records.specs.Order.{key_cmp}
use Rattle.siri_records.specs.Keyed.{Items}
use Rattle.siri_topic.specs.declared.topics.Topic.{Topic}
use Rattle.siri_topic.specs.declared.topics.Topic.TheVariants as topic
use Rattle.siri_topic.specs.Shown.{is_shown}
use Rattle.siri_messages.specs.declared.deliveries.ServiceDelivery.{ServiceDelivery}
use Rattle.siri_messages.specs.declared.deliveries.FunctionalDelivery.{FunctionalDelivery}
use Rattle.siri_messages.specs.declared.requests.ServiceRequest.{ServiceRequest}

-- all items that are shown to a topic at a moment, in order of key
abbrev pub shown : ℕ → Items → Topic → Items
shown now items topic = filter (λ entry. is_shown topic entry.1 now) items

-- ---- MaximumStopVisits (EN 15531-3)

-- by call moment, and then by key
abbrev pub soonest_cmp : Key × Item → Key × Item → Ordering
soonest_cmp = then_cmp (on (λ entry. entry_of entry.1) (option_cmp nat_cmp)) (on (λ entry. entry.0) key_cmp)

-- how many of the items come before one by call moment and key
abbrev pub items_before : Items → Key × Item → ℕ
items_before items entry = count_by (λ other. is_lt (soonest_cmp other entry)) items

-- the first so many by call moment and then key, in order of key
abbrev pub soonest : ℕ → Items → Items
soonest most items = filter (λ entry. nat_lt (items_before items entry) most) items

abbrev pub at_most : Option ℕ → Items → Items
at_most None items = items
at_most (Some most) items = soonest most items

-- the most items that the direct response to a topic has, where it names a number
abbrev pub most_of : Topic → Option ℕ
most_of (topic.Stop t) = t.maximum_stop_visits
most_of other = None

-- ---- the direct response

-- the direct response to a topic: the items that are shown to it at a moment, in order of key; where it has MaximumStopVisits,
-- only the first so many of them by call moment and then key
abbrev pub direct_to : ℕ → Items → Topic → Items
direct_to now items topic = at_most (most_of topic) (shown now items topic)

-- ---- the answer to a request

-- the items that answer a topic
unfoldable pub answering : ℕ → Items → Topic → List Item
answering now items topic = map (λ entry. entry.1) (direct_to now items topic)

-- the functional delivery that answers a topic: the producer's moment, Status and the items
unfoldable pub answer : ℕ → Items → Topic → FunctionalDelivery
answer now items topic = record {
  response_timestamp = Some now;
  subscriber_ref = None;
  subscription_ref = None;
  status = true;
  error_condition = None;
  start = None;
  round = None;
  part = None;
  items = answering now items topic;
  removals = [];
}

-- the delivery by which a producer of this name answers a request: one functional delivery for each topic, in the order of the lists
unfoldable pub response : List ℕ → ℕ → Items → ServiceRequest → ServiceDelivery
response name now items request = record {
  response_timestamp = Some now;
  producer_ref = Some name;
  response_message_identifier = None;
  request_message_ref = request.message_identifier;
  status = true;
  error_condition = None;
  more_data = false;
  stop_monitoring_delivery = map (answer now items) request.stop_monitoring_request;
  estimated_timetable_delivery = map (answer now items) request.estimated_timetable_request;
  vehicle_monitoring_delivery = map (answer now items) request.vehicle_monitoring_request;
  situation_exchange_delivery = map (answer now items) request.situation_exchange_request;
}
