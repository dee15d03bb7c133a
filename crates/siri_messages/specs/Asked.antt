-- What a SubscriptionRequest asks for, subscription by subscription (EN 15531-2).
use Rattle.std.specs.Prelude.{ℕ, ℤ, pos, List, ◌++◌, map, Option, unwrap_or}
use Rattle.siri_topic.specs.declared.subscription.Subscription.{Subscription}
use Rattle.siri_messages.specs.declared.subscriptions.SubscriptionRequest.{SubscriptionRequest}

-- all that is asked for with one subscription: the subscription, where its messages are to be sent, how often a heartbeat is
pub record AskedFor : Type 0 where
  pub subscription : Subscription
  pub address : Option (List ℕ)  -- ConsumerAddress
  pub beat : ℤ  -- HeartbeatInterval in milliseconds; zero is never

-- the subscriptions that a request names, in the order Stop Monitoring, Estimated Timetable, Vehicle Monitoring,
-- Situation Exchange
abbrev pub subscriptions_in : SubscriptionRequest → List Subscription
subscriptions_in r =
    r.stop_monitoring_subscription_request ++ r.estimated_timetable_subscription_request
    ++ r.vehicle_monitoring_subscription_request ++ r.situation_exchange_subscription_request

-- what it asks for with one of them
abbrev pub asked_with : SubscriptionRequest → Subscription → AskedFor
asked_with r subscription = record {
  subscription = subscription;
  address = r.consumer_address;
  beat = unwrap_or r.heartbeat_interval (pos 0);
}

-- what it asks for, in their order
abbrev pub asked_in : SubscriptionRequest → List AskedFor
asked_in r = map (asked_with r) (subscriptions_in r)
