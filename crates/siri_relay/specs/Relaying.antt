-- What a relay is, and what its calls do (EN 15531-2: a subscriber to its source, and a producer to its own subscribers).
use Rattle.std.specs.Prelude.{ℕ, Bool, true, false, List, [], ◌∷◌, ◌++◌, Option, Some, None, if◌then◌else◌}
use Rattle.std.specs.Option.{option_map_or}
use Rattle.siri_records.specs.Keyed.{Items}
use Rattle.siri_messages.specs.declared.message.Message.{Message}
use Rattle.siri_messages.specs.declared.message.Message.TheVariants as message
use Rattle.siri_model.specs.History.{Step, Clock, Take}
use Rattle.siri_producer.specs.Known.{Known}
use Rattle.siri_view.specs.Consuming.{Consuming, after_message, clocked, seen_of}
use Rattle.siri_view.specs.Kept.{kept_of}
use Rattle.siri_view.specs.declared.outcome.Outcome.{Outcome}
use Rattle.siri_view.specs.declared.outcome.Outcome.TheVariants as outcome
use Rattle.siri_relay.specs.Feeds.{feeds_of, has_room}

-- its producer and its consumer, the identifier of its upstream subscription once it asked for one, the view that the
-- producer was fed last, and whether the producer has all that it is to have of the consumer's view
pub record KnownRelay : Type 0 where
  pub producer : Known
  pub consumer : Consuming
  pub upstream : Option (List ℕ)
  pub fed : Items
  pub level : Bool

-- a consumer's view of a subscription, the empty one where it isn't held
abbrev pub view_held : Consuming → (identifier : List ℕ) → Items
view_held c identifier = option_map_or (λ kept. kept.view) (kept_of identifier c.held) []

-- the view of the upstream subscription, the empty one where none was asked for
abbrev pub view_in : Option (List ℕ) → Consuming → Items
view_in None c = []
view_in (Some identifier) c = view_held c identifier

abbrev pub view_of : KnownRelay → Items
view_of r = view_in r.upstream r.consumer

-- ---- which end a message is for

-- the consumer's are deliveries and notifications, what acknowledges a notification, heartbeats and the three responses; the
-- producer's are all requests and the acknowledgements of what was delivered
abbrev pub is_up : Message → Bool
is_up (message.ServiceRequest m) = false
is_up (message.ServiceDelivery m) = true
is_up (message.SubscriptionRequest m) = false
is_up (message.SubscriptionResponse m) = true
is_up (message.TerminateSubscriptionRequest m) = false
is_up (message.TerminateSubscriptionResponse m) = true
is_up (message.DataReadyNotification m) = true
is_up (message.DataReadyAcknowledgement m) = true
is_up (message.DataSupplyRequest m) = false
is_up (message.DataReceivedAcknowledgement m) = false
is_up (message.CheckStatusRequest m) = false
is_up (message.CheckStatusResponse m) = true
is_up (message.HeartbeatNotification m) = true

-- ---- what it has beside its producer

-- its consumer, the identifier of its upstream subscription once it asked for one, the view that the producer was fed last, and
-- whether the producer has all that it is to have of the consumer's view
pub record UpperSide : Type 0 where
  pub consumer : Consuming
  pub upstream : Option (List ℕ)
  pub fed : Items
  pub level : Bool

abbrev pub upper_of : KnownRelay → UpperSide
upper_of r = record { consumer = r.consumer; upstream = r.upstream; fed = r.fed; level = r.level }

-- the view of the upstream subscription there
abbrev pub view_there : UpperSide → Items
view_there u = view_in u.upstream u.consumer

-- ---- the steps of its producer, by what it has beside it

-- what is missing is fed before anything else
abbrev pub missing_steps : UpperSide → List Step
missing_steps u = if u.level then [] else feeds_of false u.fed (view_there u)

-- at a moment
abbrev pub moment_steps : UpperSide → (now : ℕ) → List Step
moment_steps u now = missing_steps u ++ Clock now ∷ []

-- where a round was applied to the view, its changes are fed
abbrev pub applied_steps : Outcome → (before after : Items) → List Step
applied_steps (outcome.Applied round) before after = feeds_of (has_room before) before after
applied_steps other before after = []

-- at a message for the consumer
abbrev pub up_steps : UpperSide → Message → List Step
up_steps u m = missing_steps u
    ++ applied_steps (seen_of u.consumer m).outcome (view_there u) (view_in u.upstream (after_message u.consumer m))

-- at a message for the producer
abbrev pub down_steps : UpperSide → Message → List Step
down_steps u m = missing_steps u ++ Take m ∷ []

-- at a message
abbrev pub message_steps : UpperSide → Message → List Step
message_steps u m = if is_up m then up_steps u m else down_steps u m

-- the same of a whole relay: what it is missing, a moment, a message, and the view after a message

abbrev pub catch_up_steps : KnownRelay → List Step
catch_up_steps r = missing_steps (upper_of r)

abbrev pub clock_steps : KnownRelay → (now : ℕ) → List Step
clock_steps r now = moment_steps (upper_of r) now

abbrev pub take_steps : KnownRelay → Message → List Step
take_steps r m = message_steps (upper_of r) m

abbrev pub view_after : KnownRelay → Message → Items
view_after r m = view_in r.upstream (after_message r.consumer m)

-- ---- its consumer

-- a consumer of this name and address, whose first request has this number, at a moment
abbrev pub new_consumer : (name : List ℕ) → (address : Option (List ℕ)) → (first now : ℕ) → Consuming
new_consumer name address first now = clocked (record { name = name; address = address; next_number = first; moment = 0; held = [] }) now

-- it takes what is for it
abbrev pub consumer_after : Consuming → Message → Consuming
consumer_after c m = if is_up m then after_message c m else c

-- ---- what it has beside its producer after a call

-- this consumer, of whose view the producer was fed all; it is level where that has room
abbrev pub all_fed : Option (List ℕ) → Consuming → UpperSide
all_fed upstream c = record { consumer = c; upstream = upstream; fed = view_in upstream c; level = has_room (view_in upstream c) }

-- after a moment
abbrev pub upper_clocked : UpperSide → (now : ℕ) → UpperSide
upper_clocked u now = all_fed u.upstream (clocked u.consumer now)

-- after a message
abbrev pub upper_after : UpperSide → Message → UpperSide
upper_after u m = all_fed u.upstream (consumer_after u.consumer m)
