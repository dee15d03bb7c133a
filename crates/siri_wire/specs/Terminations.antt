-- The tables of requests to end subscriptions, and of their answers: a line a row.
use Rattle.std.specs.Prelude.{ℕ, List, [], ◌∷◌, true, false, Option, Some, IfSome, option_and_then, Result, Ok}
use Rattle.serde_json.specs.Data.{Data}
use Rattle.siri_messages.specs.declared.terminations.TerminateSubscriptionRequest.{TerminateSubscriptionRequest}
use Rattle.siri_messages.specs.declared.terminations.TerminateSubscriptionResponse.{TerminateSubscriptionResponse}
use Rattle.siri_messages.specs.declared.terminations.TerminationResponseStatus.{TerminationResponseStatus}
use Rattle.siri_tables.specs.Refusals.{Refusal, ◌>>=◌}
use Rattle.siri_tables.specs.Rules.{name, number, table, row, required_row}
use Rattle.siri_tables.specs.Spelling.{Spells}
use Rattle.siri_tables.specs.Proper.{IsName, IsNumber}
use Rattle.siri_tables.specs.Tables.{Kind, Row, optional, some_entries, a_name, a_moment, a_flag, Table, Maker, read_all, AllProper, all_written}
use Rattle.siri_tables.specs.Writing.{row_object, written_text}
use Rattle.siri_deliveries.specs.declared.names.TheConstants.{REQUEST_TIMESTAMP, REQUESTOR_REF, MESSAGE_IDENTIFIER, SUBSCRIPTION_REF}
use Rattle.siri_deliveries.specs.declared.names.TheConstants.{RESPONSE_TIMESTAMP, REQUEST_MESSAGE_REF, TERMINATION_RESPONSE_STATUS}
use Rattle.siri_deliveries.specs.declared.names.TheConstants.{SUBSCRIBER_REF, STATUS, ERROR_CONDITION}
use Rattle.siri_deliveries.specs.Rows.{an_error, with_default, entries}
use Rattle.siri_wire.specs.Subscribers.{subscriber_or, SpellsSubscriber}
use Rattle.siri_wire.specs.Identifiers.{written_identifier}
use Rattle.siri_wire.specs.Limits.{most_subscriptions}

-- the requestor of a request to end subscriptions, the request's number, and the subscriber, who is the requestor where no other is named
abbrev pub Asking : Type 0
Asking = Option (List ℕ) × ℕ × List ℕ

abbrev pub asking : Data → Result Asking Refusal
asking d = do
  requestor ← row name REQUESTOR_REF.now d
  identifier ← required_row number MESSAGE_IDENTIFIER.now d
  subscriber ← subscriber_or requestor d
  Ok (requestor, identifier, subscriber)

-- their rows
abbrev pub the_asking : {S : Type 0} → (S → Asking) → Row S
the_asking of = record {
  Of = Asking;
  of = of;
  read = asking;
  Spelled = λ d a. Spells name REQUESTOR_REF.now d a.0 × Spells number MESSAGE_IDENTIFIER.now d (Some a.1) × SpellsSubscriber a.0 d a.2;
  write = λ a. (REQUESTOR_REF.now, option_and_then written_text a.0) ∷ (
    MESSAGE_IDENTIFIER.now,
    written_identifier a.1,
  ) ∷ (SUBSCRIBER_REF.now, written_text a.2) ∷ [];
  Is = λ a. IfSome a.0 IsName × IsNumber a.1 × IsName a.2;
  blank = λ a. false;
}

-- TerminateSubscriptionRequest: a request to end subscriptions (EN 15531-2)
abbrev pub termination_table : Table TerminateSubscriptionRequest
termination_table =
    optional a_moment REQUEST_TIMESTAMP.now (λ m. m.request_timestamp) ∷
    the_asking (λ m. (m.requestor_ref, m.message_identifier, m.subscriber_ref)) ∷
    some_entries a_name most_subscriptions SUBSCRIPTION_REF.now (λ m. m.subscription_ref) ∷ []

abbrev pub make_termination : Maker termination_table
make_termination =
    λ request_timestamp asking subscription_ref.
    record {
      request_timestamp = request_timestamp;
      requestor_ref = asking.0;
      message_identifier = asking.1;
      subscriber_ref = asking.2;
      subscription_ref = subscription_ref;
    }

unfoldable pub termination_request : Data → Result TerminateSubscriptionRequest Refusal
termination_request d = read_all termination_table make_termination d

unfoldable pub written_termination : TerminateSubscriptionRequest → Data
written_termination m = row_object (all_written termination_table m)

-- TerminationResponseStatus: what became of a subscription that was to end (EN 15531-2)
abbrev pub termination_status_table : Table TerminationResponseStatus
termination_status_table =
    optional a_name SUBSCRIBER_REF.now (λ r. r.subscriber_ref) ∷
    optional a_name SUBSCRIPTION_REF.now (λ r. r.subscription_ref) ∷
    with_default a_flag true STATUS.now (λ r. r.status) ∷
    optional an_error ERROR_CONDITION.now (λ r. r.error_condition) ∷ []

abbrev pub make_termination_status : Maker termination_status_table
make_termination_status =
    λ subscriber_ref subscription_ref status error_condition.
    record { subscriber_ref = subscriber_ref; subscription_ref = subscription_ref; status = status; error_condition = error_condition }

unfoldable pub termination_status : Data → Result TerminationResponseStatus Refusal
termination_status d = read_all termination_status_table make_termination_status d

unfoldable pub written_termination_status : TerminationResponseStatus → Option Data
written_termination_status r = Some (row_object (all_written termination_status_table r))

abbrev pub a_termination_status : Kind TerminationResponseStatus
a_termination_status = record { rule = table termination_status; writing = written_termination_status; Is = AllProper termination_status_table }

-- TerminateSubscriptionResponse: the answer to a request to end subscriptions (EN 15531-2)
abbrev pub termination_response_table : Table TerminateSubscriptionResponse
termination_response_table =
    optional a_moment RESPONSE_TIMESTAMP.now (λ m. m.response_timestamp) ∷
    optional a_name REQUEST_MESSAGE_REF.now (λ m. m.request_message_ref) ∷
    entries a_termination_status most_subscriptions TERMINATION_RESPONSE_STATUS.now (λ m. m.termination_response_status) ∷ []

abbrev pub make_termination_response : Maker termination_response_table
make_termination_response =
    λ response_timestamp request_message_ref termination_response_status.
    record { response_timestamp = response_timestamp; request_message_ref = request_message_ref; termination_response_status = termination_response_status }

unfoldable pub termination_response : Data → Result TerminateSubscriptionResponse Refusal
termination_response d = read_all termination_response_table make_termination_response d

unfoldable pub written_termination_response : TerminateSubscriptionResponse → Data
written_termination_response m = row_object (all_written termination_response_table m)
