-- What a producer answers to a message that it takes (EN 15531-2).
use Rattle.std.specs.Prelude.{ℕ, List, Bool, true, false, not, if◌then◌else◌, Option, Some, None, Result, Ok, Err}
use Rattle.siri_messages.specs.Rounds.{has_round}
use Rattle.siri_messages.specs.declared.deliveries.ServiceDelivery.{ServiceDelivery}
use Rattle.siri_messages.specs.declared.supplies.DataSupplyRequest.{DataSupplyRequest}
use Rattle.siri_messages.specs.declared.message.Message.{Message}
use Rattle.siri_messages.specs.declared.message.Message.TheVariants as message
use Rattle.siri_model.specs.Direct.{response}
use Rattle.siri_model.specs.Fed.{counts_of}
use Rattle.siri_model.specs.History.{History, entries_of, now_of, start_of, started_of, current}
use Rattle.siri_model.specs.Lives.{table_of}
use Rattle.siri_model.specs.Rows.{KeptLife, rows_of}
use Rattle.siri_subscriptions.specs.replies.Statuses.{feed_acknowledgement, status_response}
use Rattle.siri_responder.specs.declared.feeding.Fed.{Fed}
use Rattle.siri_responder.specs.FedCounts.{fed_counts}
use Rattle.siri_subs.specs.declared.rounds.answers.SupplyError.{SupplyError}
use Rattle.siri_subs.specs.declared.rounds.answers.SupplyError.TheVariants as refused_as
use Rattle.siri_subs.specs.declared.entry.Row.{Row}
use Rattle.siri_subs.specs.declared.errors.Accepted.{Accepted}
use Rattle.siri_subs.specs.declared.errors.RenumberError.{RenumberError}
use Rattle.siri_subscriptions.specs.declared.renewals.RenewAnswer.{RenewAnswer}
use Rattle.siri_subscriptions.specs.Renewals.{renew_answer}
use Rattle.siri_subscriptions.specs.Requests.{subscription_answer}
use Rattle.siri_subscriptions.specs.Terminations.{termination_answer}
use Rattle.siri_subscriptions.specs.declared.supplies.SupplyAnswer.{SupplyAnswer}
use Rattle.siri_subscriptions.specs.Supplies.{supply_answer}
use Rattle.siri_subscriptions.specs.Acknowledgements.{counts}
use Rattle.siri_producer.specs.declared.answers.Answer.{Answer}
use Rattle.siri_producer.specs.declared.answers.Note.{Note}
use Rattle.siri_producer.specs.declared.answers.Note.TheVariants as note

-- a message is a feed: a ServiceDelivery of no round
abbrev pub is_feed : Message → Bool
is_feed (message.ServiceDelivery d) = not (has_round d)
is_feed other = false

-- a producer does nothing with a message
abbrev pub is_ignored : Message → Bool
is_ignored (message.ServiceRequest r) = false
is_ignored (message.SubscriptionRequest r) = false
is_ignored (message.TerminateSubscriptionRequest r) = false
is_ignored (message.DataSupplyRequest r) = false
is_ignored (message.DataReceivedAcknowledgement a) = false
is_ignored (message.CheckStatusRequest r) = false
is_ignored (message.ServiceDelivery d) = has_round d
is_ignored other = true

-- a message that is noted, and isn't replied to
abbrev pub noted : Note → Answer
noted word = record { note = word; reply = None }

-- a message that is replied to
abbrev pub replied : Note → Message → Answer
replied word reply = record { note = word; reply = Some reply }

-- a feed with this ResponseMessageIdentifier is acknowledged at a moment, by what is told of it
abbrev pub fed_reply : (name : List ℕ) → (now : ℕ) → (identifier : Option (List ℕ)) → Fed → Answer
fed_reply name now identifier fed =
    replied (note.Fed fed) (message.DataReceivedAcknowledgement (feed_acknowledgement name now identifier fed.full))

-- by what is counted over the history
abbrev pub fed_answer : (name : List ℕ) → History → ServiceDelivery → Answer
fed_answer name h d = fed_reply name (now_of h) d.response_message_identifier
    (fed_counts (counts_of (now_of h) (current h) (entries_of d)))

-- what a request for a part is told
abbrev pub supply_note : Result (Unit {0}) SupplyError → Note
supply_note (Ok done) = note.Supplied
supply_note (Err refused_as.NothingReady) = note.NothingReady
supply_note (Err (refused_as.WrongPart wanted)) = note.WrongPart wanted

-- what a request for all of a subscription is told
abbrev pub renew_note : Result Accepted RenumberError → Note
renew_note (Ok how) = note.Renewed
renew_note (Err why) = note.NotRenewed

-- it is replied to with a delivery that carries nothing
abbrev pub renew_reply : RenewAnswer → Answer
renew_reply answer = replied (renew_note answer.outcome) (message.ServiceDelivery answer.delivery)

-- a request for a part is replied to with the part, or with Status false
abbrev pub supply_reply : SupplyAnswer → Answer
supply_reply answer = replied (supply_note answer.outcome) (message.ServiceDelivery answer.delivery)

-- a DataSupplyRequest is answered by whether it has AllData, by a producer of this name, in a start at a moment
abbrev pub supply_answer_to : (name : List ℕ) → (start now : ℕ) → (all_data : Bool) → DataSupplyRequest
    → List (Row KeptLife) → Answer
supply_answer_to name start now true r rows = renew_reply (renew_answer name now r rows)
supply_answer_to name start now false r rows = supply_reply (supply_answer name start now r rows)

abbrev pub acknowledged_note : Bool → Note
acknowledged_note true = note.Acknowledged
acknowledged_note false = note.NotThis

-- the answer of a producer of this name, after a history
unfoldable pub answer_to : (name : List ℕ) → History → Message → Answer
answer_to name h (message.ServiceRequest r) = replied note.Asked (message.ServiceDelivery (response name (now_of h) (current h) r))
answer_to name h (message.SubscriptionRequest r) = replied note.Subscribed
    (message.SubscriptionResponse (subscription_answer (now_of h) r (rows_of (table_of h))))
answer_to name h (message.TerminateSubscriptionRequest r) =
    replied note.Ended (message.TerminateSubscriptionResponse (termination_answer (now_of h) r (rows_of (table_of h))))
answer_to name h (message.DataSupplyRequest r) = supply_answer_to name (start_of h) (now_of h) r.all_data r
    (rows_of (table_of h))
answer_to name h (message.DataReceivedAcknowledgement a) = noted (acknowledged_note (counts (start_of h) a (rows_of (table_of h))))
answer_to name h (message.CheckStatusRequest r) = replied note.Checked (message.CheckStatusResponse (status_response name (now_of h) (started_of h) r))
answer_to name h (message.ServiceDelivery d) = if has_round d then noted note.Ignored else fed_answer name h d
answer_to name h other = noted note.Ignored
