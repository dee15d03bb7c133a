-- What a request for subscriptions is answered, subscription by subscription (EN 15531-2, SubscriptionRequest).
use Rattle.std.specs.Prelude.{ℕ, List, find, option_map, Option, Some, Result, Ok, Err}
use Rattle.std.specs.List.{scan}
use Rattle.siri_topic.specs.declared.subscription.Subscription.{Subscription}
use Rattle.siri_messages.specs.Asked.{AskedFor, asked_in}
use Rattle.siri_messages.specs.declared.subscriptions.ResponseStatus.{ResponseStatus}
use Rattle.siri_messages.specs.declared.subscriptions.SubscriptionRequest.{SubscriptionRequest}
use Rattle.siri_messages.specs.declared.subscriptions.SubscriptionResponse.{SubscriptionResponse}
use Rattle.siri_subs.specs.declared.entry.Row.{Row}
use Rattle.siri_subs.specs.declared.errors.Accepted.{Accepted}
use Rattle.siri_subs.specs.declared.errors.Accepted.TheVariants as accepted_as
use Rattle.siri_subs.specs.declared.errors.AcceptError.{AcceptError}
use Rattle.siri_subs.specs.Table.{is_of, answer, accepted}
use Rattle.siri_model.specs.Rows.{KeptLife, new_row}
use Rattle.siri_subscriptions.specs.replies.Refusals.{not_accepted_as}
use Rattle.siri_subscriptions.specs.replies.Responses.{accepted_status, refused_status, subscription_response}

-- the termination time under which a subscription is held
abbrev pub termination_in : (subscriber identifier : List ℕ) → List (Row KeptLife) → Option ℕ
termination_in subscriber identifier rows = option_map (λ row. row.wanted.termination) (find (is_of subscriber identifier) rows)

-- until when a subscription is held (ValidUntil): until the termination time that was asked for; where the request came
-- before, until the one that is held
abbrev pub valid_until : Accepted → (asked : ℕ) → (held : Option ℕ) → ℕ
valid_until accepted_as.Again asked (Some held) = held
valid_until accepted asked held = asked

-- the status that an answer of the table makes
abbrev pub status_by : Result Accepted AcceptError → Subscription → (held : Option ℕ) → ResponseStatus
status_by (Ok accepted) wanted held = accepted_status wanted.subscriber wanted.identifier (valid_until accepted wanted.termination held)
status_by (Err why) wanted held = refused_status wanted.subscriber wanted.identifier (not_accepted_as why)

-- the status of a subscription that is asked for under a number at a moment
abbrev pub status_of : (now number : ℕ) → List (Row KeptLife) → AskedFor → ResponseStatus
status_of now number rows asked =
    let wanted = asked.subscription in
    status_by (answer now (new_row now number asked) rows) wanted (termination_in wanted.subscriber wanted.identifier rows)

-- the rows after it
abbrev pub rows_with : (now number : ℕ) → List (Row KeptLife) → AskedFor → List (Row KeptLife)
rows_with now number rows asked = accepted now (new_row now number asked) rows

-- the statuses of these, one after the other
abbrev pub statuses_of : (now number : ℕ) → List AskedFor → List (Row KeptLife) → List ResponseStatus
statuses_of now number asked rows = scan (rows_with now number) (status_of now number) rows asked

-- the answer to a request at a moment, by the rows that are held
unfoldable pub subscription_answer : (now : ℕ) → SubscriptionRequest → List (Row KeptLife) → SubscriptionResponse
subscription_answer now r rows = subscription_response now r.message_identifier (statuses_of now r.message_identifier (asked_in r) rows)
