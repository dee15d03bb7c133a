-- Inner words: cited by private functions alone.
-- What is ready for a subscription that is asked for, by the rows that are held before its request.
use Rattle.std.specs.Prelude.{ℕ, nat_lt, nat_le, List, fold, Bool, true, false, Option, Some, None, Result, Ok, Err, if◌then◌else◌}
use Rattle.std.specs.List.{scan}
use Rattle.siri_topic.specs.declared.subscription.Subscription.{Subscription}
use Rattle.siri_messages.specs.Asked.{AskedFor}
use Rattle.siri_messages.specs.declared.subscriptions.ResponseStatus.{ResponseStatus}
use Rattle.siri_subs.specs.declared.entry.Row.{Row}
use Rattle.siri_subs.specs.declared.errors.Accepted.{Accepted}
use Rattle.siri_subs.specs.declared.errors.Accepted.TheVariants as accepted_as
use Rattle.siri_subs.specs.declared.errors.AcceptError.{AcceptError}
use Rattle.siri_subs.specs.Table.{answer, accepted, number_of}
use Rattle.siri_model.specs.Rows.{KeptLife, new_row}
use Rattle.siri_subscriptions.specs.declared.replies.refusal.Refusal.{Refusal}
use Rattle.siri_subscriptions.specs.declared.replies.refusal.Refusal.TheVariants as refused
use Rattle.siri_subscriptions.specs.replies.Responses.{accepted_status, refused_status}
use Rattle.siri_subscriptions.specs.declared.prepared.Candidate.{Candidate}
use Rattle.siri_subscriptions.specs.Noted.{Noted, new_noted}
use Rattle.siri_subscriptions.specs.Requests.{termination_in}

-- ---- before the first is accepted

-- why a subscription is refused under a number, if it is, by the number under which it is held before the request
abbrev pub refusal_by : (is_terminated : Bool) → (number : ℕ) → (held : Option ℕ) → Refusal
refusal_by true number held = refused.PastTermination
refusal_by false number (Some held) = if nat_lt number held then refused.Superseded held else refused.TableFull
refusal_by false number None = refused.TableFull

abbrev pub refusal_of : (now number : ℕ) → List (Row KeptLife) → Subscription → Refusal
refusal_of now number rows wanted = refusal_by (nat_le wanted.termination now) number (number_of wanted.subscriber wanted.identifier rows)

-- what is ready for one
abbrev pub candidate_of : (now number : ℕ) → List (Row KeptLife) → AskedFor → Candidate
candidate_of now number rows asked =
    let wanted = asked.subscription in
    record {
      wanted = wanted;
      address = asked.address;
      beat = asked.beat;
      accepted = accepted_status wanted.subscriber wanted.identifier wanted.termination;
      refused = refused_status wanted.subscriber wanted.identifier (refusal_of now number rows wanted);
    }

-- ---- one after the other

-- a status with the moment until which the subscription is held
abbrev pub with_valid_until : ResponseStatus → Option ℕ → ResponseStatus
with_valid_until status None = status
with_valid_until status (Some held) = record status { valid_until = Some held }

-- which status the table's answer makes, by the termination time that was held before
abbrev pub candidate_status : Result Accepted AcceptError → (accepted refused : ResponseStatus) → (held : Option ℕ) → ResponseStatus
candidate_status (Ok accepted_as.Again) accepted refused held = with_valid_until accepted held
candidate_status (Ok how) accepted refused held = accepted
candidate_status (Err why) accepted refused held = refused

-- what a candidate asks for
abbrev pub asked_by : Candidate → AskedFor
asked_by candidate = record { subscription = candidate.wanted; address = candidate.address; beat = candidate.beat }

-- the status of one, and the rows after it
abbrev pub accept_status : (now number : ℕ) → List (Row KeptLife) → Candidate → ResponseStatus
accept_status now number rows candidate =
    candidate_status (answer now (new_row now number (asked_by candidate)) rows) candidate.accepted candidate.refused
    (termination_in candidate.wanted.subscriber candidate.wanted.identifier rows)

abbrev pub accept_rows : (now number : ℕ) → List (Row KeptLife) → Candidate → List (Row KeptLife)
accept_rows now number rows candidate = accepted now (new_row now number (asked_by candidate)) rows

-- the same of all
abbrev pub all_statuses : (now number : ℕ) → List Candidate → List (Row KeptLife) → List ResponseStatus
all_statuses now number all rows = scan (accept_rows now number) (accept_status now number) rows all

abbrev pub all_rows : (now number : ℕ) → List Candidate → List (Row KeptLife) → List (Row KeptLife)
all_rows now number all rows = fold (accept_rows now number) rows all

-- what is noted after one, and after all
abbrev pub accept_noted : (now number : ℕ) → List (Row Noted) → Candidate → List (Row Noted)
accept_noted now number rows candidate = accepted now (new_noted now number (asked_by candidate)) rows

abbrev pub all_noted : (now number : ℕ) → List Candidate → List (Row Noted) → List (Row Noted)
all_noted now number all rows = fold (accept_noted now number) rows all
