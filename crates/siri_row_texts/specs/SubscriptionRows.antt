-- The rows of a producer's subscriptions (EN 15531-2, SubscriptionRequest, DataSupplyRequest).
use Rattle.std.specs.Prelude.{ℕ, ℤ, pos, List, [], ◌∷◌, ◌++◌, ◌-◌, ◌==◌, length, replicate, true, Option, None, Some, if◌then◌else◌}
use Rattle.std.specs.Fmt.{decimal}
use Rattle.std.specs.Ordering.{int_eq}
use Rattle.siri_topic.specs.declared.subscription.Subscription.{Subscription}
use Rattle.siri_topic.specs.declared.topics.Topic.{Topic}
use Rattle.siri_topic.specs.declared.topics.Topic.TheVariants as topic
use Rattle.siri_messages.specs.Asked.{AskedFor}
use Rattle.siri_messages.specs.Blank.{blank_subscription_request}
use Rattle.siri_messages.specs.declared.message.Message.TheVariants as message
use Rattle.siri_messages.specs.declared.subscriptions.SubscriptionRequest.{SubscriptionRequest}
use Rattle.siri_messages.specs.declared.supplies.DataSupplyRequest.{DataSupplyRequest}
use Rattle.siri_wire.specs.Canonical.{canonical}

-- the HeartbeatInterval that asks for a heartbeat so often: none where it is zero, which is never
abbrev pub interval_of : ℤ → Option ℤ
interval_of beat = if int_eq beat (pos 0) then None else Some beat

-- a request that asks for a subscription of a topic, and for nothing more
abbrev pub asks_for : Topic → Subscription → SubscriptionRequest → SubscriptionRequest
asks_for (topic.Stop t) s request = record request { stop_monitoring_subscription_request = s ∷ [] }
asks_for (topic.Timetable t) s request = record request { estimated_timetable_subscription_request = s ∷ [] }
asks_for (topic.Vehicle t) s request = record request { vehicle_monitoring_subscription_request = s ∷ [] }
asks_for (topic.Situation t) s request = record request { situation_exchange_subscription_request = s ∷ [] }

-- the request of one subscription under a number, without its moment and its requestor
abbrev pub request_of : AskedFor → ℕ → SubscriptionRequest
request_of asked base =
    asks_for asked.subscription.topic asked.subscription
    (record (blank_subscription_request base) {
      consumer_address = asked.address;
      heartbeat_interval = interval_of asked.beat;
    })

-- its text: the row that keeps a subscription, under its base
abbrev pub request_text : AskedFor → ℕ → List ℕ
request_text asked base = canonical (message.SubscriptionRequest (request_of asked base))

-- the request for all of a subscription under a number, that names its base; without its moment
abbrev pub renewal_of : Subscription → (number base : ℕ) → DataSupplyRequest
renewal_of s number base = record {
  request_timestamp = None;
  consumer_ref = s.subscriber;
  all_data = true;
  extensions = record { number = number; start = 0; round = base; part = 0; subscription = s.identifier };
}

-- its text; there is none where the number is the base
abbrev pub renewal_text : Subscription → (number base : ℕ) → Option (List ℕ)
renewal_text s number base =
    if number == base then None else Some (canonical (message.DataSupplyRequest (renewal_of s number base)))

-- a place in the order of first acceptance, in 20 digits
abbrev pub place_text : ℕ → List ℕ
place_text place = replicate (20 - length (decimal place)) 48 ++ decimal place
