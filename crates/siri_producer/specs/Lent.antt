-- What is lent of an answer (EN 15531-2): the items of a direct response, and the wanted part of a round.
use Rattle.std.specs.Prelude.{ℕ, List, [], map, slice_get, Bool, true, false, not, ◌&&◌, is_some, if◌then◌else◌}
use Rattle.std.specs.Prelude.{Option, Some, None, option_map, option_and_then, find}
use Rattle.std.specs.List.{list_all}
use Rattle.std.specs.Option.{option_map_or}
use Rattle.siri_messages.specs.Blank.{blank_functional_delivery}
use Rattle.siri_messages.specs.declared.deliveries.FunctionalDelivery.{FunctionalDelivery}
use Rattle.siri_messages.specs.declared.deliveries.ServiceDelivery.{ServiceDelivery}
use Rattle.siri_messages.specs.declared.requests.ServiceRequest.{ServiceRequest}
use Rattle.siri_model.specs.Direct.{most_of}
use Rattle.siri_model.specs.Rows.{KeptLife}
use Rattle.siri_records.specs.declared.item.Service.{Service}
use Rattle.siri_records.specs.declared.item.Service.TheVariants as service
use Rattle.siri_subs.specs.rounds.Wanted.{WantedPart, part_sent, wanted_part}
use Rattle.siri_subs.specs.declared.entry.Row.{Row}
use Rattle.siri_subs.specs.Table.{is_of}
use Rattle.siri_topic.specs.declared.subscription.Subscription.{Subscription}
use Rattle.siri_topic.specs.declared.topics.Topic.{Topic}
use Rattle.siri_producer.specs.declared.answers.Note.{Note}
use Rattle.siri_producer.specs.declared.answers.Note.TheVariants as note
use Rattle.siri_producer.specs.declared.lending.LentPart.{LentPart}
use Rattle.siri_producer.specs.declared.lending.Supplied.{Supplied}
use Rattle.siri_producer.specs.declared.lending.Supplied.TheVariants as supplied

-- ---- a direct response

-- the topics of a request's list of a service
abbrev pub topics_of : ServiceRequest → Service → List Topic
topics_of r service.Stop = r.stop_monitoring_request
topics_of r service.Timetable = r.estimated_timetable_request
topics_of r service.Vehicle = r.vehicle_monitoring_request
topics_of r service.Situation = r.situation_exchange_request

-- the answer to a topic has all items that are shown to it: it has no MaximumStopVisits
abbrev pub has_all : Topic → Bool
has_all topic = not (is_some (most_of topic))

abbrev pub if_it_has_all : Topic → Option Topic
if_it_has_all topic = if has_all topic then Some topic else None

-- the topic at a place of a service's list, where all that is shown to it answers it
abbrev pub lent_topic : ServiceRequest → Service → ℕ → Option Topic
lent_topic r service place = option_and_then if_it_has_all (slice_get (topics_of r service) place)

-- no topic of a request has MaximumStopVisits
abbrev pub is_lent : ServiceRequest → Bool
is_lent r =
    list_all has_all r.stop_monitoring_request
    && (list_all has_all r.estimated_timetable_request
    && (list_all has_all r.vehicle_monitoring_request && list_all has_all r.situation_exchange_request))

-- a delivery without its items
abbrev pub without_own_items : FunctionalDelivery → FunctionalDelivery
without_own_items d = record d { items = [] }

-- the functional delivery that answers a topic at a moment, without its items
abbrev pub head_of : ℕ → FunctionalDelivery
head_of now = record blank_functional_delivery { response_timestamp = Some now }

-- the direct response to a request by a producer of this name at a moment, without its items
abbrev pub response_head : (name : List ℕ) → (now : ℕ) → ServiceRequest → ServiceDelivery
response_head name now request = record {
  response_timestamp = Some now;
  producer_ref = Some name;
  response_message_identifier = None;
  request_message_ref = request.message_identifier;
  status = true;
  error_condition = None;
  more_data = false;
  stop_monitoring_delivery = map (λ _. head_of now) request.stop_monitoring_request;
  estimated_timetable_delivery = map (λ _. head_of now) request.estimated_timetable_request;
  vehicle_monitoring_delivery = map (λ _. head_of now) request.vehicle_monitoring_request;
  situation_exchange_delivery = map (λ _. head_of now) request.situation_exchange_request;
}

-- a delivery of which each functional delivery is without its items
abbrev pub without_items : ServiceDelivery → ServiceDelivery
without_items d = record d {
  stop_monitoring_delivery = map without_own_items d.stop_monitoring_delivery;
  estimated_timetable_delivery = map without_own_items d.estimated_timetable_delivery;
  vehicle_monitoring_delivery = map without_own_items d.vehicle_monitoring_delivery;
  situation_exchange_delivery = map without_own_items d.situation_exchange_delivery;
}

-- ---- a part

-- what is told of a DataSupplyRequest, by what is noted of it
abbrev pub supplied_by : Note → Supplied
supplied_by note.Supplied = supplied.Part
supplied_by (note.WrongPart wanted) = supplied.WrongPart wanted
supplied_by note.Renewed = supplied.AllData
supplied_by note.NotRenewed = supplied.AllData
supplied_by other = supplied.NothingReady

-- the wanted part of a subscription that is held under a number
pub record OwnPart : Type 0 where
  pub number : ℕ
  pub wanted : Subscription
  pub part : WantedPart

-- a part that is lent
abbrev pub part_of : LentPart → OwnPart
part_of lent = record { number = lent.number; wanted = lent.wanted.now; part = part_sent lent.part }

-- the wanted part of a row, where a round of it is outstanding
abbrev pub own_part : Row KeptLife → Option OwnPart
own_part row =
    option_map (λ part. record { number = row.number; wanted = row.wanted; part = part }) (wanted_part row.slot.rounds)

-- the wanted part of a subscription, where it is held and a round of it is outstanding
abbrev pub part_in : (subscriber identifier : List ℕ) → List (Row KeptLife) → Option OwnPart
part_in subscriber identifier rows = option_and_then own_part (find (is_of subscriber identifier) rows)

-- a round of a row is outstanding, where there is a row
abbrev pub is_outstanding : Option (Row KeptLife) → Bool
is_outstanding row = option_map_or (λ row. is_some row.slot.rounds.outstanding) row false

-- a round of a subscription is outstanding
abbrev pub is_outstanding_in : (subscriber identifier : List ℕ) → List (Row KeptLife) → Bool
is_outstanding_in subscriber identifier rows = is_outstanding (find (is_of subscriber identifier) rows)
