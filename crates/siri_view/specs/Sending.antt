-- The messages that a consumer makes (EN 15531-2), each by its fields.
use Rattle.std.specs.Prelude.{ℕ, ℤ, pos, Bool, true, false, List, [], ◌∷◌, ◌++◌, fold, Option, Some, None, if◌then◌else◌}
use Rattle.std.specs.List.{filter, list_any}
use Rattle.std.specs.Ordering.{int_eq}
use Rattle.siri_records.specs.declared.item.Service.{Service}
use Rattle.siri_records.specs.declared.item.Service.TheVariants as service
use Rattle.siri_topic.specs.Agreement.{same_name}
use Rattle.siri_topic.specs.declared.subscription.Subscription.{Subscription}
use Rattle.siri_topic.specs.declared.topics.Topic.{Topic}
use Rattle.siri_topic.specs.declared.topics.Topic.TheVariants as topic
use Rattle.siri_messages.specs.declared.supplies.Mark as sent
use Rattle.siri_messages.specs.declared.message.Message.{Message}
use Rattle.siri_messages.specs.declared.message.Message.TheVariants as message
use Rattle.siri_life.specs.Life.{Mark}
use Rattle.siri_life.specs.Named.{Name}

-- ---- what is said of a part

-- the mark of a part of a subscription
abbrev pub mark_of : Name → Mark → sent.Mark
mark_of identifier m =
    record { number = m.number; start = m.start; round = m.round; part = m.part; subscription = identifier }

-- DataReceivedAcknowledgement of a part
abbrev pub acknowledgement : (name : Name) (now : ℕ) → Name → Mark → Message
acknowledgement name now identifier m =
    message.DataReceivedAcknowledgement (record {
      response_timestamp = Some now;
      consumer_ref = Some name;
      request_message_ref = None;
      status = true;
      error_condition = None;
      extensions = Some (mark_of identifier m);
    })

-- DataSupplyRequest of a part
abbrev pub supply_request : (name : Name) (now : ℕ) → Name → Mark → Message
supply_request name now identifier m =
    message.DataSupplyRequest (record {
      request_timestamp = Some now;
      consumer_ref = name;
      all_data = false;
      extensions = mark_of identifier m;
    })

-- DataSupplyRequest with AllData, for all of a subscription: its mark has the request's number, and in the place of a round the
-- base, the number of the SubscriptionRequest that asked for it last
abbrev pub all_data_request : (name : Name) (now : ℕ) → Name → (number base : ℕ) → Message
all_data_request name now identifier number base =
    message.DataSupplyRequest (record {
      request_timestamp = Some now;
      consumer_ref = name;
      all_data = true;
      extensions = record { number = number; start = 0; round = base; part = 0; subscription = identifier };
    })

-- DataReadyAcknowledgement of a notification
abbrev pub ready_acknowledgement : (name : Name) (now : ℕ) → Message
ready_acknowledgement name now =
    message.DataReadyAcknowledgement (record { response_timestamp = Some now; consumer_ref = Some name; status = true })

-- ---- requests

-- CheckStatusRequest
abbrev pub check_request : (name : Name) (now : ℕ) → Message
check_request name now =
    message.CheckStatusRequest (record { request_timestamp = Some now; requestor_ref = Some name; message_identifier = None })

-- TerminateSubscriptionRequest of one subscription under a number
abbrev pub termination_request : (name : Name) (now number : ℕ) → Name → Message
termination_request name now number identifier =
    message.TerminateSubscriptionRequest (record {
      request_timestamp = Some now;
      requestor_ref = Some name;
      message_identifier = number;
      subscriber_ref = name;
      subscription_ref = identifier ∷ [];
    })

-- a topic is one of a service
abbrev pub is_topic_of : Service → Topic → Bool
is_topic_of service.Stop (topic.Stop t) = true
is_topic_of service.Timetable (topic.Timetable t) = true
is_topic_of service.Vehicle (topic.Vehicle t) = true
is_topic_of service.Situation (topic.Situation t) = true
is_topic_of _ _ = false

-- the subscriptions to topics of a service
abbrev pub of_service : Service → List Subscription → List Subscription
of_service which wanted = filter (λ s. is_topic_of which s.topic) wanted

-- HeartbeatInterval, where it isn't zero
abbrev pub interval : ℤ → Option ℤ
interval beat = if int_eq beat (pos 0) then None else Some beat

-- SubscriptionRequest of some subscriptions under a number
abbrev pub subscription_request : (name : Name) (address : Option Name) (now number : ℕ) → List Subscription → ℤ → Message
subscription_request name address now number wanted beat =
    message.SubscriptionRequest (record {
      request_timestamp = Some now;
      requestor_ref = Some name;
      message_identifier = number;
      consumer_address = address;
      heartbeat_interval = interval beat;
      stop_monitoring_subscription_request = of_service service.Stop wanted;
      estimated_timetable_subscription_request = of_service service.Timetable wanted;
      vehicle_monitoring_subscription_request = of_service service.Vehicle wanted;
      situation_exchange_subscription_request = of_service service.Situation wanted;
    })

-- ---- what is asked for

-- subscriptions are of one identifier
abbrev pub is_identified : Name → Subscription → Bool
is_identified identifier s = same_name s.identifier identifier

-- a subscription after others, where none of them has its identifier
abbrev pub with_first : List Subscription → Subscription → List Subscription
with_first before s = if list_any (is_identified s.identifier) before then before else before ++ s ∷ []

-- of each identifier the first subscription
abbrev pub first_of_each : List Subscription → List Subscription
first_of_each wanted = fold with_first [] wanted

-- as a consumer's own: it is the subscriber
abbrev pub own : Name → Subscription → Subscription
own name s = record s { subscriber = name }
