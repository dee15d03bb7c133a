-- What a request to end subscriptions is answered, one after the other (EN 15531-2, TerminateSubscriptionRequest).
use Rattle.std.specs.Prelude.{ℕ, List, if◌then◌else◌}
use Rattle.std.specs.List.{scan}
use Rattle.siri_messages.specs.declared.terminations.TerminateSubscriptionRequest.{TerminateSubscriptionRequest}
use Rattle.siri_messages.specs.declared.terminations.TerminateSubscriptionResponse.{TerminateSubscriptionResponse}
use Rattle.siri_messages.specs.declared.terminations.TerminationResponseStatus.{TerminationResponseStatus}
use Rattle.siri_subs.specs.declared.entry.Row.{Row}
use Rattle.siri_subs.specs.Table.{ended, is_ended_by}
use Rattle.siri_model.specs.Rows.{KeptLife}
use Rattle.siri_subscriptions.specs.replies.Responses.{ended_status, unknown_status, termination_response}

-- the status of a subscription that is to end under a number
abbrev pub end_status : (number : ℕ) → (subscriber : List ℕ) → List (Row KeptLife) → (identifier : List ℕ) → TerminationResponseStatus
end_status number subscriber rows identifier =
    if is_ended_by number subscriber identifier rows then ended_status subscriber identifier else unknown_status subscriber identifier

-- the statuses of these, one after the other
abbrev pub end_statuses : (number : ℕ) → (subscriber : List ℕ) → List (List ℕ) → List (Row KeptLife) → List TerminationResponseStatus
end_statuses number subscriber identifiers rows =
    scan (λ rows identifier. ended number subscriber identifier rows) (end_status number subscriber) rows identifiers

-- the answer to a request at a moment, by the rows that are held
unfoldable pub termination_answer : (now : ℕ) → TerminateSubscriptionRequest → List (Row KeptLife) → TerminateSubscriptionResponse
termination_answer now r rows = termination_response now r.message_identifier (end_statuses r.message_identifier r.subscriber_ref r.subscription_ref rows)
