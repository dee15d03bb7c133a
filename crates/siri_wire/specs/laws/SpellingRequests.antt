-- The relation of trees and of requests and their answers: the member of each row spells the field's value under the row's
-- rule, or is absent where there is none. Members that no row names are free.
use Rattle.std.specs.Prelude.{◌≡◌, ℕ, List, false, Option}
use Rattle.serde_json.specs.Data.{Data}
use Rattle.siri_records.specs.declared.item.Service.{Service}
use Rattle.siri_records.specs.declared.item.Service.TheVariants as service
use Rattle.siri_topic.specs.declared.subscription.Subscription.{Subscription}
use Rattle.siri_topic.specs.declared.topics.LineDirection.{LineDirection}
use Rattle.siri_topic.specs.declared.topics.Topic.{Topic}
use Rattle.siri_topic.specs.declared.topics.Topic.TheVariants as topic
use Rattle.siri_messages.specs.declared.requests.ServiceRequest.{ServiceRequest}
use Rattle.siri_messages.specs.declared.subscriptions.ResponseStatus.{ResponseStatus}
use Rattle.siri_messages.specs.declared.subscriptions.SubscriptionRequest.{SubscriptionRequest}
use Rattle.siri_messages.specs.declared.subscriptions.SubscriptionResponse.{SubscriptionResponse}
use Rattle.siri_messages.specs.declared.terminations.TerminateSubscriptionRequest.{TerminateSubscriptionRequest}
use Rattle.siri_messages.specs.declared.terminations.TerminateSubscriptionResponse.{TerminateSubscriptionResponse}
use Rattle.siri_messages.specs.declared.terminations.TerminationResponseStatus.{TerminationResponseStatus}
use Rattle.siri_tables.specs.Tables.{AllSpelled}
use Rattle.siri_wire.specs.Requests.{service_request_table, asks_nothing}
use Rattle.siri_wire.specs.Subscriptions.{subscription_table, requests_nothing, requested_by, subscription_request_table}
use Rattle.siri_wire.specs.Subscriptions.{response_status_table, subscription_response_table}
use Rattle.siri_wire.specs.Terminations.{termination_table, termination_status_table, termination_response_table}
use Rattle.siri_deliveries.specs.Topics.{line_direction_table, stop_topic_table, timetable_topic_table, vehicle_topic_table, situation_topic_table}

-- ---- topics

-- a line, and a direction of it
abbrev pub SpellsLineDirection : Data → LineDirection → Type 0
SpellsLineDirection = AllSpelled line_direction_table

-- a topic, which is of that service
abbrev pub SpellsTopic : Service → Data → Topic → Type 0
SpellsTopic service.Stop d (topic.Stop t) = AllSpelled stop_topic_table d t
SpellsTopic service.Timetable d (topic.Timetable t) = AllSpelled timetable_topic_table d t
SpellsTopic service.Vehicle d (topic.Vehicle t) = AllSpelled vehicle_topic_table d t
SpellsTopic service.Situation d (topic.Situation t) = AllSpelled situation_topic_table d t
SpellsTopic s d t = ⊥

-- ---- requests that are answered at once

-- a request for what is shown to some topics now
abbrev pub SpellsServiceRequest : Data → ServiceRequest → Type 0
SpellsServiceRequest d m = AllSpelled service_request_table d m × (asks_nothing m ≡ false)

-- ---- subscriptions

-- the element of a subscription to a service, in a message of this requestor
abbrev pub SpellsSubscription : Service → Option (List ℕ) → Data → Subscription → Type 0
SpellsSubscription s requestor = AllSpelled (subscription_table s requestor)

-- a request for subscriptions
abbrev pub SpellsSubscriptionRequest : Data → SubscriptionRequest → Type 0
SpellsSubscriptionRequest d m = AllSpelled (subscription_request_table m.requestor_ref) d m × (requests_nothing (requested_by m) ≡ false)

-- what became of a subscription that was asked for
abbrev pub SpellsResponseStatus : Data → ResponseStatus → Type 0
SpellsResponseStatus = AllSpelled response_status_table

-- the answer to a request for subscriptions
abbrev pub SpellsSubscriptionResponse : Data → SubscriptionResponse → Type 0
SpellsSubscriptionResponse = AllSpelled subscription_response_table

-- ---- the end of subscriptions

-- a request to end subscriptions
abbrev pub SpellsTerminationRequest : Data → TerminateSubscriptionRequest → Type 0
SpellsTerminationRequest = AllSpelled termination_table

-- what became of a subscription that was to end
abbrev pub SpellsTerminationStatus : Data → TerminationResponseStatus → Type 0
SpellsTerminationStatus = AllSpelled termination_status_table

-- the answer to a request to end subscriptions
abbrev pub SpellsTerminationResponse : Data → TerminateSubscriptionResponse → Type 0
SpellsTerminationResponse = AllSpelled termination_response_table
