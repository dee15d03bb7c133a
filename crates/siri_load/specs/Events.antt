-- The events of a load: what the consumer subscribes to, what is fed, when the clock moves. Moments are milliseconds since 1970.
use Rattle.std.specs.Prelude.{ℕ, ◌+◌, ◌*◌, ◌%◌, ◌==◌, ℤ, pos, true, List, [], ◌∷◌, ◌++◌, codes, Some, None, if◌then◌else◌}
use Rattle.std.specs.Fmt.{decimal}
use Rattle.siri_records.specs.Blank.{blank_call, blank_visit_journey}
use Rattle.siri_records.specs.declared.call.StopCall.{StopCall}
use Rattle.siri_records.specs.declared.item.Item.{Item}
use Rattle.siri_records.specs.declared.item.Item.TheVariants as item
use Rattle.siri_records.specs.declared.key.Key.{Key}
use Rattle.siri_records.specs.declared.key.Key.TheVariants as key
use Rattle.siri_topic.specs.declared.subscription.Subscription.{Subscription}
use Rattle.siri_topic.specs.declared.topics.Topic.TheVariants as topic
use Rattle.siri_messages.specs.Blank.{blank_functional_delivery, blank_service_delivery}
use Rattle.siri_messages.specs.declared.deliveries.FunctionalDelivery.{FunctionalDelivery}
use Rattle.siri_messages.specs.declared.deliveries.ServiceDelivery.{ServiceDelivery}
use Rattle.siri_world_model.specs.declared.event.Event.{Event}
use Rattle.siri_world_model.specs.declared.event.Event.TheVariants as event

-- ---- names and moments

-- the one consumer
abbrev pub consumer : List ℕ
consumer = codes "load"

-- the monitoring point of a number
abbrev pub stop : ℕ → List ℕ
stop number = codes "s" ++ decimal number

-- the ItemIdentifier of a number
abbrev pub identifier : ℕ → List ℕ
identifier number = codes "i" ++ decimal number

-- 2024-05-01T00:00:00Z
abbrev pub first_moment : ℕ
first_moment = 1714521600000

-- 2024-05-31T00:00:00Z
abbrev pub last_moment : ℕ
last_moment = 1717113600000

-- so many seconds later
abbrev pub later : (moment seconds : ℕ) → ℕ
later moment seconds = moment + 1000 * seconds

-- ---- what is subscribed to

-- ChangeBeforeUpdates is a minute for odd numbers and zero for even ones
abbrev pub slack : ℕ → ℤ
slack number = if number % 2 == 0 then pos 0 else pos 60000

-- a subscription by its number: to the visits at the monitoring point of that number, within an hour; that of number 4 is fetched
unfoldable pub subscription : ℕ → Subscription
subscription number = record {
  subscriber = consumer;
  identifier = decimal number;
  termination = last_moment;
  topic = topic.Stop (record {
    monitoring_ref = stop number;
    line_ref = None;
    direction_ref = None;
    operator_ref = None;
    destination_ref = None;
    preview_interval = Some (pos 3600000);
    start_time = None;
    maximum_stop_visits = None;
  });
  slack = slack number;
  incremental = true;
  fetched = number == 4;
}

-- the consumer asks for it, without heartbeats
abbrev pub subscribing : ℕ → Event
subscribing number = event.Subscribe consumer (subscription number) (pos 0)

-- ---- what is fed

-- a call with an ExpectedDepartureTime alone
unfoldable pub call : ℕ → StopCall
call moment = record blank_call { expected_departure_time = Some moment }

-- a visit of the line L1, by its monitoring point, its ItemIdentifier and its departure
unfoldable pub visit : (at known_by departure : ℕ) → Item
visit at known_by departure = item.Visit (record {
  recorded_at_time = None;
  item_identifier = identifier known_by;
  monitoring_ref = stop at;
  monitored_vehicle_journey = record (blank_visit_journey (call departure)) { line_ref = Some (codes "L1") };
})

-- what a cancellation names (EN 15531-3, MonitoredStopVisitCancellation)
abbrev pub cancelled : (at known_by : ℕ) → Key
cancelled at known_by = key.Visit (stop at) (identifier known_by)

-- items and cancellations of Stop Monitoring, of no round
unfoldable pub functional : List Item → List Key → FunctionalDelivery
functional items removals = record blank_functional_delivery { items = items; removals = removals }

-- a delivery of Stop Monitoring alone
abbrev pub delivery_of : List FunctionalDelivery → ServiceDelivery
delivery_of deliveries = record blank_service_delivery { stop_monitoring_delivery = deliveries }

-- a delivery of them alone
abbrev pub delivery : List Item → List Key → ServiceDelivery
delivery items removals = delivery_of (functional items removals ∷ [])

-- a feed of one visit
abbrev pub feeding : (at known_by departure : ℕ) → Event
feeding at known_by departure = event.Feed (delivery (visit at known_by departure ∷ []) [])

-- a feed of one cancellation
abbrev pub cancelling : (at known_by : ℕ) → Event
cancelling at known_by = event.Feed (delivery [] (cancelled at known_by ∷ []))

-- ---- what is told of at the end

-- what the consumer shows of its subscription of a number
abbrev pub viewing : ℕ → Event
viewing number = event.View consumer (decimal number)
