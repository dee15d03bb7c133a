-- The subscriptions of a request, list by list.
use Rattle.std.proofs.Common.{◌≡◌, [], ◌++◌, map, append_assoc}
use Rattle.std.proofs.lemmas.List.{append-nil}
use Rattle.std.proofs.lemmas.Simd.{map-map}
use Rattle.siri_messages.specs.Asked.{AskedFor, asked_in, asked_with}
use Rattle.siri_messages.specs.declared.subscriptions.SubscriptionRequest.{SubscriptionRequest}

module _ {X : Type 0} (make : AskedFor → X) (r : SubscriptionRequest) where
  -- what is made of the four lists, one after the other, is made of all that is asked for
  pub of_lists : map (λ wanted. make (asked_with r wanted))
      (r.stop_monitoring_subscription_request
      ++ (r.estimated_timetable_subscription_request
      ++ (r.vehicle_monitoring_subscription_request ++ (r.situation_exchange_subscription_request ++ []))))
      ≡ map make (asked_in r)
  of_lists = simp (append-nil, append_assoc, map-map)
