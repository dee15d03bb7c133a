-- The request of one subscription of a proper request is proper.
use Rattle.std.proofs.Common.{ℕ, ℤ, pos, Bool, true, false, List, [], ◌∷◌, ◌++◌, map, Option, Some, None, refl, arith}
use Rattle.std.specs.Prelude.{IfSome, if◌then◌else◌, unwrap_or}
use Rattle.std.specs.List.{AllByRecursion as All}
use Rattle.std.specs.Ordering.{int_eq}
use Rattle.siri_records.specs.declared.item.Service.{Service}
use Rattle.siri_records.specs.declared.item.Service.TheVariants as service
use Rattle.siri_topic.specs.declared.subscription.Subscription.{Subscription}
use Rattle.siri_topic.specs.declared.topics.Topic.{Topic}
use Rattle.siri_topic.specs.declared.topics.Topic.TheVariants as topic
use Rattle.siri_messages.specs.Asked.{AskedFor, asked_in, asked_with}
use Rattle.siri_messages.specs.Blank.{blank_subscription_request}
use Rattle.siri_messages.specs.declared.message.Message.TheVariants as message
use Rattle.siri_messages.specs.declared.subscriptions.SubscriptionRequest.{SubscriptionRequest}
use Rattle.siri_tables.specs.Proper.{IsName, IsNumber}
use Rattle.siri_tables.specs.Tables.{AllProper}
use Rattle.siri_deliveries.specs.Rows.{a_whole_span}
use Rattle.siri_deliveries.specs.Topics.{IsProperTopic}
use Rattle.siri_wire.specs.Subscriptions.{subscription_table}
use Rattle.siri_wire.specs.laws.ProperMessages.{IsProper as IsProperMessage}
use Rattle.siri_row_texts.specs.SubscriptionRows.{asks_for, interval_of, request_of}
use Rattle.siri_row_texts.proofs.Alone.{no_entry, one_entry}

-- what is said of all of a request: its number, its address and its heartbeat are proper
record AreProper (base : ℕ) (address : Option (List ℕ)) (beat : Option ℤ) : Type 0 where
  number : IsNumber base
  names : IfSome address IsName
  interval : IfSome beat a_whole_span.Is

abbrev plain : ℕ → Option (List ℕ) → Option ℤ → SubscriptionRequest
plain base address beat = record (blank_subscription_request base) { consumer_address = address; heartbeat_interval = beat }

-- by the service of the list in which it stands
alone_at : (s : Service) (t : Topic) (x : Subscription) (base : ℕ) (address : Option (List ℕ)) (beat : Option ℤ) → IsProperTopic s t
    → AllProper (subscription_table s None) x → AreProper base address beat
    → IsProperMessage (message.SubscriptionRequest (asks_for t x (plain base address beat)))
alone_at service.Stop (topic.Stop t) x base address beat of is all =
    ((tt, (tt, (all.number, (all.names, (all.interval, (one_entry 200 x (omega arith) is, (no_entry, (no_entry, (no_entry, tt))))))))), refl)
alone_at service.Timetable (topic.Timetable t) x base address beat of is all =
    ((tt, (tt, (all.number, (all.names, (all.interval, (no_entry, (one_entry 200 x (omega arith) is, (no_entry, (no_entry, tt))))))))), refl)
alone_at service.Vehicle (topic.Vehicle t) x base address beat of is all =
    ((tt, (tt, (all.number, (all.names, (all.interval, (no_entry, (no_entry, (one_entry 200 x (omega arith) is, (no_entry, tt))))))))), refl)
alone_at service.Situation (topic.Situation t) x base address beat of is all =
    ((tt, (tt, (all.number, (all.names, (all.interval, (no_entry, (no_entry, (no_entry, (one_entry 200 x (omega arith) is, tt))))))))), refl)
alone_at service.Stop (topic.Timetable t) x base address beat of is all = absurd of
alone_at service.Stop (topic.Vehicle t) x base address beat of is all = absurd of
alone_at service.Stop (topic.Situation t) x base address beat of is all = absurd of
alone_at service.Timetable (topic.Stop t) x base address beat of is all = absurd of
alone_at service.Timetable (topic.Vehicle t) x base address beat of is all = absurd of
alone_at service.Timetable (topic.Situation t) x base address beat of is all = absurd of
alone_at service.Vehicle (topic.Stop t) x base address beat of is all = absurd of
alone_at service.Vehicle (topic.Timetable t) x base address beat of is all = absurd of
alone_at service.Vehicle (topic.Situation t) x base address beat of is all = absurd of
alone_at service.Situation (topic.Stop t) x base address beat of is all = absurd of
alone_at service.Situation (topic.Timetable t) x base address beat of is all = absurd of
alone_at service.Situation (topic.Vehicle t) x base address beat of is all = absurd of

-- ---- the subscriptions of a request

-- a heartbeat that is asked for never is one that isn't asked for
unless_never : (beat : ℤ) (is : Bool) → a_whole_span.Is beat → IfSome (if is then None else Some beat) a_whole_span.Is
unless_never beat true proper = tt
unless_never beat false proper = proper

interval_proper : (beat : Option ℤ) → IfSome beat a_whole_span.Is → IfSome (interval_of (unwrap_or beat (pos 0))) a_whole_span.Is
interval_proper None is = tt
interval_proper (Some beat) is = unless_never beat (int_eq beat (pos 0)) is

module _ (r : SubscriptionRequest) (all : AreProper r.message_identifier r.consumer_address r.heartbeat_interval) where
  abbrev IsAlone : AskedFor → Type 0
  IsAlone asked = IsProperMessage (message.SubscriptionRequest (request_of asked r.message_identifier))

  of_service : (s : Service) (xs : List Subscription) → All (AllProper (subscription_table s None)) xs → All IsAlone (map (asked_with r) xs)
  of_service s [] are = tt
  of_service s (x ∷ xs) are = (
    alone_at s x.topic x r.message_identifier r.consumer_address (interval_of (unwrap_or r.heartbeat_interval (pos 0))) (are.0.1.1.1.0) are.0
        (record { number = all.number; names = all.names; interval = interval_proper r.heartbeat_interval all.interval }),
    of_service s xs are.1,
  )

joined : {A B : Type 0} (P : B → Type 0) (f : A → B) (xs ys : List A) → All P (map f xs) → All P (map f ys) → All P (map f (xs ++ ys))
joined P f [] ys are more = more
joined P f (x ∷ xs) ys are more = (are.0, joined P f xs ys are.1 more)

pub each_alone : (r : SubscriptionRequest) → IsProperMessage (message.SubscriptionRequest r)
    → All (λ asked. IsProperMessage (message.SubscriptionRequest (request_of asked r.message_identifier))) (asked_in r)
each_alone r p =
    let from_number = p.0.1.1 in
    let from_stops = from_number.1.1.1 in
    let all : AreProper r.message_identifier r.consumer_address r.heartbeat_interval =
    record { number = from_number.0; names = from_number.1.0; interval = from_number.1.1.0 } in
    let stops = of_service r all service.Stop r.stop_monitoring_subscription_request from_stops.0.each in
    let timetables = of_service r all service.Timetable r.estimated_timetable_subscription_request from_stops.1.0.each in
    let vehicles = of_service r all service.Vehicle r.vehicle_monitoring_subscription_request from_stops.1.1.0.each in
    let situations = of_service r all service.Situation r.situation_exchange_subscription_request from_stops.1.1.1.0.each in
    joined (IsAlone r all) (asked_with r)
    (r.stop_monitoring_subscription_request ++ r.estimated_timetable_subscription_request ++ r.vehicle_monitoring_subscription_request)
    r.situation_exchange_subscription_request
    (joined (IsAlone r all) (asked_with r) (r.stop_monitoring_subscription_request ++ r.estimated_timetable_subscription_request)
    r.vehicle_monitoring_subscription_request
    (joined (IsAlone r all) (asked_with r) r.stop_monitoring_subscription_request r.estimated_timetable_subscription_request stops timetables) vehicles)
    situations
