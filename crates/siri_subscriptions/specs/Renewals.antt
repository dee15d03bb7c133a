-- What a request for all of a subscription is answered (EN 15531-2, DataSupplyRequest with AllData): the acceptance
-- that it names by its base is renewed under its number, or why it isn't. The mark's Number is the request's, its Round
-- the base.
use Rattle.std.specs.Prelude.{ℕ, List, find, Some, None, Result, Ok, Err}
use Rattle.siri_messages.specs.declared.supplies.DataSupplyRequest.{DataSupplyRequest}
use Rattle.siri_messages.specs.declared.supplies.Mark.{Mark}
use Rattle.siri_subs.specs.declared.entry.Row.{Row}
use Rattle.siri_subs.specs.declared.errors.Accepted.{Accepted}
use Rattle.siri_subs.specs.declared.errors.RenumberError.{RenumberError}
use Rattle.siri_subs.specs.Table.{is_of, renumber_answer}
use Rattle.siri_model.specs.Rows.{KeptLife, renewed_row, with_row_of}
use Rattle.siri_subscriptions.specs.replies.Parts.{all_data_response}
use Rattle.siri_subscriptions.specs.replies.Refusals.{not_renewed_as}
use Rattle.siri_subscriptions.specs.declared.renewals.RenewAnswer.{RenewAnswer}

-- the answer of a producer of this name at a moment, by what the table answers to a request under a number
abbrev pub renew_by : (producer : List ℕ) → (now number : ℕ) → Result Accepted RenumberError → RenewAnswer
renew_by producer now number
    (Ok how) = record { outcome = Ok how; delivery = all_data_response producer now number None }
renew_by producer now number (Err why) =
    record { outcome = Err why; delivery = all_data_response producer now number (Some (not_renewed_as why)) }

-- by the rows that are held
unfoldable pub renew_answer : (producer : List ℕ) → (now : ℕ) → DataSupplyRequest → List (Row KeptLife) → RenewAnswer
renew_answer producer now r rows =
    renew_by producer now r.extensions.number
    (renumber_answer r.extensions.number r.extensions.round
    (find (is_of r.consumer_ref r.extensions.subscription) rows))

-- the rows after a request for all of the subscription that a consumer's mark names
abbrev pub rows_renewed : (now : ℕ) → (consumer : List ℕ) → Mark → List (Row KeptLife) → List (Row KeptLife)
rows_renewed now consumer mark rows = with_row_of consumer mark.subscription
    (renewed_row now mark.number mark.round) rows
