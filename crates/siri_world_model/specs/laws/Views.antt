-- What a view that is told shows, for whoever knows SIRI and not this code: its items are records that were sent, as they were
-- sent; and where it is quiet, they are those of a direct response at that moment, over all observations that were taken since
-- the producer's latest start. And what is told of a request.
use Rattle.std.specs.Prelude.{◌≡◌, ◌≤◌, ◌⊎◌, ℕ, ℤ, List, [], ◌∷◌, ◌++◌, length, map, fold, Bool, true, Some, None}
use Rattle.std.specs.List.{All, Contains}
use Rattle.siri_records.specs.declared.item.Item.{Item as AnItem}
use Rattle.siri_records.specs.Keyed.{Items, InOrder}
use Rattle.siri_messages.specs.Asked.{AskedFor}
use Rattle.siri_messages.specs.declared.deliveries.FunctionalDelivery.{FunctionalDelivery}
use Rattle.siri_messages.specs.declared.deliveries.ServiceDelivery.{ServiceDelivery}
use Rattle.siri_messages.specs.declared.message.Message.{Message}
use Rattle.siri_messages.specs.declared.message.Message.TheVariants as message
use Rattle.siri_messages.specs.declared.requests.ServiceRequest.{ServiceRequest}
use Rattle.siri_topic.specs.declared.topics.Topic.{Topic}
use Rattle.siri_change.specs.Changes.{Meets}
use Rattle.siri_change.specs.Parts.{Carried}
use Rattle.siri_life.specs.Life.{Mark}
use Rattle.siri_life.specs.Named.{Name}
use Rattle.siri_model.specs.Direct.{direct_to}
use Rattle.siri_model.specs.History.{History, Start, Clock, Feed, entries_of, now_of, current}
use Rattle.siri_view.specs.Hearing.{Delivered, heard}
use Rattle.siri_view.specs.declared.outcome.Held.{Held}
use Rattle.siri_world_model.specs.declared.event.Event.{Event}
use Rattle.siri_world_model.specs.declared.event.Event.TheVariants as event
use Rattle.siri_world_model.specs.Lines as line
use Rattle.siri_world_model.specs.Lines.{ToldLine}
use Rattle.siri_world_model.specs.Packets.{ToConsumer, packet_at}
use Rattle.siri_world_model.specs.Told.{refusal, world_after}
use Rattle.siri_world_model.specs.laws.QuietViews.{asked_last, by_key}

-- ---- what the producer knows of the world outside

-- a start begins anew; then come the moments of its clock and its feeds
abbrev pub observed_after : History → Event → History
observed_after history (event.Start moment) = Start 1 moment ∷ []
observed_after history (event.Clock moment) = history ++ Clock moment ∷ []
observed_after history (event.Feed delivery) = history ++ Feed (entries_of delivery) ∷ []
observed_after history other = history

-- all moments and all observations since the latest start
abbrev pub observed : List Event → History
observed events = fold observed_after [] events

-- the direct response to a topic after these events (EN 15531-2, request and response): what is current and shown to it at
-- that moment, in order of key; where it has a MaximumStopVisits, only the first so many by call moment and then key
abbrev pub direct_response : List Event → Topic → Items
direct_response events topic = direct_to (now_of (observed events)) (current (observed events)) topic

-- ---- what is told of a view

-- items are those of a direct response: they are in order of key, each key once; they have the keys of the response; and of each
-- key the two items are near by the slack (ChangeBeforeUpdates)
pub record AreDirect (slack : ℤ) (items : List AnItem) (response : Items) : Type 0 where
  pub in_order : InOrder (by_key items)
  pub meets : Meets slack (by_key items) response

-- a packet to this consumer has this very item, in a part of this subscription, under this number and start, of a round up to
-- this one: so each of its fields, RecordedAtTime among them, is that of a record that was sent
pub record WasSent (events : List Event) (consumer identifier : Name) (held : Held) (item : AnItem) : Type 0 where
  pub packet : ℕ
  pub message : Message
  pub is_sent : packet_at packet (world_after events).packets ≡ Some (ToConsumer consumer message)
  pub mark : Mark
  pub more : Bool
  pub part : Carried
  pub says : heard message ≡ Delivered consumer identifier mark more part
  pub number_is : mark.number ≡ held.number
  pub start_is : mark.start ≡ held.start
  pub round_is : mark.round ≤ held.round
  pub has : Contains part.items item

-- what is told is the line of the view, and its items, each of which was sent. Where it is quiet, these are the items of the
-- direct response to the topic of the subscription that the consumer asked for last
pub record ShowsDirect (events : List Event) (consumer identifier : Name) (lines : List ToldLine) : Type 0 where
  pub held : Held
  pub items : List AnItem
  pub quiet : Bool
  pub says : lines ≡ line.View consumer identifier held (length items) quiet ∷ map line.Item items
  pub are_sent : All (WasSent events consumer identifier held) items
  pub asked : AskedFor
  pub is_asked : asked_last events consumer identifier ≡ Some asked
  pub is_direct : quiet ≡ true → AreDirect asked.subscription.slack items (direct_response events asked.subscription.topic)

-- the consumer asked for no such subscription, or has ended it, and that is what is told
pub record ShowsNone (events : List Event) (consumer identifier : Name) (lines : List ToldLine) : Type 0 where
  pub is_asked : asked_last events consumer identifier ≡ None
  pub says : lines ≡ line.Unknown consumer (Some identifier) ∷ []

-- what is told of a view: that there is none, or the view
abbrev pub TellsView : List Event → (consumer identifier : Name) → List ToldLine → Type 0
TellsView events consumer identifier lines = ShowsNone events consumer identifier lines ⊎ ShowsDirect events consumer identifier lines

-- ---- what is told of a request

-- the items that answer a topic: those of the direct response
abbrev pub answered : List Event → Topic → List AnItem
answered events topic = map (λ entry. entry.1) (direct_response events topic)

-- the items that each functional delivery lists
abbrev pub items_listed : List FunctionalDelivery → List (List AnItem)
items_listed deliveries = map (λ delivery. delivery.items) deliveries

-- what is told of a request is the delivery that answers it: for each of its topics a functional delivery, which lists the items
-- of the direct response to that topic
pub record AnswersDirect (events : List Event) (request : ServiceRequest) (lines : List ToldLine) : Type 0 where
  pub delivery : ServiceDelivery
  pub says : lines ≡ line.Answer (message.ServiceDelivery delivery) ∷ []
  pub stops : items_listed delivery.stop_monitoring_delivery ≡ map (answered events) request.stop_monitoring_request
  pub timetables : items_listed delivery.estimated_timetable_delivery ≡ map (answered events) request.estimated_timetable_request
  pub vehicles : items_listed delivery.vehicle_monitoring_delivery ≡ map (answered events) request.vehicle_monitoring_request
  pub situations : items_listed delivery.situation_exchange_delivery ≡ map (answered events) request.situation_exchange_request

-- ---- events

-- none of them was refused
abbrev pub AllHappen : List Event → Type 0
AllHappen events = (before : List Event) (e : Event) (after : List Event) → events ≡ before ++ e ∷ after → refusal (world_after before) e ≡ None
