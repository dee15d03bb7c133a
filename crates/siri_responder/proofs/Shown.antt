-- What is shown of the live items is what is shown of all.
use Rattle.std.proofs.Common.{◌≡◌, ℕ, List, [], map, Option, Some, None, true, false, ap, ◌∙◌}
use Rattle.std.specs.Map.{values_of}
use Rattle.siri_records.specs.Keyed.{Items, living}
use Rattle.siri_messages.specs.declared.deliveries.FunctionalDelivery.{FunctionalDelivery}
use Rattle.siri_messages.specs.declared.requests.ServiceRequest.{ServiceRequest}
use Rattle.siri_topic.specs.declared.topics.Topic.{Topic}
use Rattle.siri_model.specs.Direct.{shown, at_most, most_of, soonest, answering, answer, response}
use Rattle.siri_model.proofs.Lawful.{shown_live}

answering_live : (now : ℕ) (items : Items) (topic : Topic) → answering now (living now items) topic ≡ answering now items topic
unfolding answering
answering_live now items topic = ap (λ (shown : Items). map (λ e. e.1) (at_most (most_of topic) shown)) (shown_live now items topic)

answer_live : (now : ℕ) (items : Items) (topic : Topic) → answer now (living now items) topic ≡ answer now items topic
unfolding answer
answer_live now items topic = λ i. record {
  response_timestamp = Some now;
  subscriber_ref = None;
  subscription_ref = None;
  status = true;
  error_condition = None;
  start = None;
  round = None;
  part = None;
  items = answering_live now items topic i;
  removals = [];
}

-- the live items answer as all do
pub response_live : (name : List ℕ) (now : ℕ) (items : Items) (request : ServiceRequest)
    → response name now (living now items) request ≡ response name now items request
unfolding response
response_live name now items request = λ i.
    let each : Topic → FunctionalDelivery = λ topic. answer_live now items topic i in
    record {
      response_timestamp = Some now;
      producer_ref = Some name;
      response_message_identifier = None;
      request_message_ref = request.message_identifier;
      status = true;
      error_condition = None;
      more_data = false;
      stop_monitoring_delivery = map each request.stop_monitoring_request;
      estimated_timetable_delivery = map each request.estimated_timetable_request;
      vehicle_monitoring_delivery = map each request.vehicle_monitoring_request;
      situation_exchange_delivery = map each request.situation_exchange_request;
    }

-- the answers of a store that holds this at this moment
pub answers_held : (moment now : ℕ) (held items : Items) (topics : List Topic) (answers : List FunctionalDelivery)
    → now ≡ moment → items ≡ held → answers ≡ map (answer now items) topics → answers ≡ map (answer moment held) topics
answers_held moment now held items topics answers m h is = is ∙ (λ i. map (answer (m i) (h i)) topics)

pub response_is : (name : List ℕ) (moment : ℕ) (held : Items) (request : ServiceRequest) (now : ℕ) (own : List ℕ)
    (asked : Option (List ℕ)) (stop timetable vehicle situation : List FunctionalDelivery) → now ≡ moment → own ≡ name
    → asked ≡ request.message_identifier
    → stop ≡ map (answer moment held) request.stop_monitoring_request
    → timetable ≡ map (answer moment held) request.estimated_timetable_request
    → vehicle ≡ map (answer moment held) request.vehicle_monitoring_request
    → situation ≡ map (answer moment held) request.situation_exchange_request
    → record {
      response_timestamp = Some now;
      producer_ref = Some own;
      response_message_identifier = None;
      request_message_ref = asked;
      status = true;
      error_condition = None;
      more_data = false;
      stop_monitoring_delivery = stop;
      estimated_timetable_delivery = timetable;
      vehicle_monitoring_delivery = vehicle;
      situation_exchange_delivery = situation;
    } ≡ response name moment held request
unfolding response
response_is name moment held request now own asked stop timetable vehicle situation n o a s t v x = λ i. record {
  response_timestamp = Some (n i);
  producer_ref = Some (o i);
  response_message_identifier = None;
  request_message_ref = a i;
  status = true;
  error_condition = None;
  more_data = false;
  stop_monitoring_delivery = s i;
  estimated_timetable_delivery = t i;
  vehicle_monitoring_delivery = v i;
  situation_exchange_delivery = x i;
}

-- ---- a topic that names a number, and one that doesn't

pub answering_most : (now : ℕ) (items : Items) (topic : Topic) (most : ℕ) → Some most ≡ most_of topic
    → values_of (soonest most (shown now items topic)) ≡ answering now items topic
unfolding answering
answering_most now items topic most is = ap (λ m. values_of (at_most m (shown now items topic))) is

pub answering_all : (now : ℕ) (items : Items) (topic : Topic) → None ≡ most_of topic → values_of (shown now items topic) ≡ answering now items topic
unfolding answering
answering_all now items topic is = ap (λ m. values_of (at_most m (shown now items topic))) is
