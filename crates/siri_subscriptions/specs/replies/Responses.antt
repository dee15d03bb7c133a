-- What requests for subscriptions, and requests to end them, are answered (EN 15531-2, SubscriptionResponse,
-- TerminateSubscriptionResponse).
use Rattle.std.specs.Prelude.{ℕ, List, true, false, Some, None}
use Rattle.std.specs.Fmt.{decimal}
use Rattle.siri_messages.specs.declared.subscriptions.ResponseStatus.{ResponseStatus}
use Rattle.siri_messages.specs.declared.subscriptions.SubscriptionResponse.{SubscriptionResponse}
use Rattle.siri_messages.specs.declared.terminations.TerminationResponseStatus.{TerminationResponseStatus}
use Rattle.siri_messages.specs.declared.terminations.TerminateSubscriptionResponse.{TerminateSubscriptionResponse}
use Rattle.siri_subscriptions.specs.declared.replies.refusal.Refusal.{Refusal}
use Rattle.siri_subscriptions.specs.declared.replies.refusal.Refusal.TheVariants as refused
use Rattle.siri_subscriptions.specs.replies.Refusals.{refusal_text}

-- the RequestMessageRef of what answers or follows a request under a number: the number in decimal digits
abbrev pub number_text : ℕ → List ℕ
number_text number = decimal number

-- ---- SubscriptionResponse

-- the status of a subscription that is held until a moment (ValidUntil)
unfoldable pub accepted_status : (subscriber identifier : List ℕ) → (valid_until : ℕ) → ResponseStatus
accepted_status subscriber identifier valid_until = record {
  subscriber_ref = Some subscriber;
  subscription_ref = Some identifier;
  status = true;
  valid_until = Some valid_until;
  error_condition = None;
}

-- the status of one that is refused
unfoldable pub refused_status : (subscriber identifier : List ℕ) → Refusal → ResponseStatus
refused_status subscriber identifier why = record {
  subscriber_ref = Some subscriber;
  subscription_ref = Some identifier;
  status = false;
  valid_until = None;
  error_condition = Some (refusal_text why);
}

-- the answer at a moment to a request for subscriptions under a number, with a status for each
unfoldable pub subscription_response : (now : ℕ) → (number : ℕ) → List ResponseStatus → SubscriptionResponse
subscription_response now number statuses = record {
  response_timestamp = Some now;
  request_message_ref = Some (number_text number);
  response_status = statuses;
}

-- ---- TerminateSubscriptionResponse

-- the status of a subscription that was ended
unfoldable pub ended_status : (subscriber identifier : List ℕ) → TerminationResponseStatus
ended_status subscriber identifier = record {
  subscriber_ref = Some subscriber;
  subscription_ref = Some identifier;
  status = true;
  error_condition = None;
}

-- the status of one that isn't held under a smaller number
unfoldable pub unknown_status : (subscriber identifier : List ℕ) → TerminationResponseStatus
unknown_status subscriber identifier = record {
  subscriber_ref = Some subscriber;
  subscription_ref = Some identifier;
  status = false;
  error_condition = Some (refusal_text refused.UnknownSubscription);
}

-- the answer at a moment to a request to end subscriptions under a number, with a status for each
unfoldable pub termination_response : (now : ℕ) → (number : ℕ) → List TerminationResponseStatus → TerminateSubscriptionResponse
termination_response now number statuses = record {
  response_timestamp = Some now;
  request_message_ref = Some (number_text number);
  termination_response_status = statuses;
}
