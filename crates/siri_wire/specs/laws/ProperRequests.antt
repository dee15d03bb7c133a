-- Proper requests and their answers: each field has a value that its row can give, what has to be there is there, topics are
-- of their list's service, and nothing stands in them that isn't carried.
use Rattle.std.specs.Prelude.{◌≡◌, false}
use Rattle.siri_messages.specs.declared.requests.ServiceRequest.{ServiceRequest}
use Rattle.siri_messages.specs.declared.subscriptions.SubscriptionRequest.{SubscriptionRequest}
use Rattle.siri_messages.specs.declared.subscriptions.SubscriptionResponse.{SubscriptionResponse}
use Rattle.siri_messages.specs.declared.terminations.TerminateSubscriptionRequest.{TerminateSubscriptionRequest}
use Rattle.siri_messages.specs.declared.terminations.TerminateSubscriptionResponse.{TerminateSubscriptionResponse}
use Rattle.siri_tables.specs.Tables.{AllProper}
use Rattle.siri_wire.specs.Requests.{service_request_table, asks_nothing}
use Rattle.siri_wire.specs.Subscriptions.{subscription_request_table, requests_nothing, requested_by, subscription_response_table}
use Rattle.siri_wire.specs.Terminations.{termination_table, termination_response_table}
pub use Rattle.siri_deliveries.specs.Topics.{IsProperTopic}

-- ServiceRequest, which asks for something
abbrev pub IsProperServiceRequest : ServiceRequest → Type 0
IsProperServiceRequest m = AllProper service_request_table m × (asks_nothing m ≡ false)

-- SubscriptionRequest, which asks for some subscription
abbrev pub IsProperSubscriptionRequest : SubscriptionRequest → Type 0
IsProperSubscriptionRequest m = AllProper (subscription_request_table m.requestor_ref) m × (requests_nothing (requested_by m) ≡ false)

-- SubscriptionResponse
abbrev pub IsProperSubscriptionResponse : SubscriptionResponse → Type 0
IsProperSubscriptionResponse = AllProper subscription_response_table

-- TerminateSubscriptionRequest, which names a subscription
abbrev pub IsProperTerminationRequest : TerminateSubscriptionRequest → Type 0
IsProperTerminationRequest = AllProper termination_table

-- TerminateSubscriptionResponse
abbrev pub IsProperTerminationResponse : TerminateSubscriptionResponse → Type 0
IsProperTerminationResponse = AllProper termination_response_table
