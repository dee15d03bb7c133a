-- What a producer says of itself, and what it says of a feed (EN 15531-2, CheckStatusResponse, HeartbeatNotification,
-- DataReceivedAcknowledgement).
use Rattle.std.specs.Prelude.{ℕ, zero, suc, List, Bool, true, false, Option, Some, None}
use Rattle.siri_messages.specs.declared.statuses.CheckStatusRequest.{CheckStatusRequest}
use Rattle.siri_messages.specs.declared.statuses.CheckStatusResponse.{CheckStatusResponse}
use Rattle.siri_messages.specs.declared.statuses.HeartbeatNotification.{HeartbeatNotification}
use Rattle.siri_messages.specs.declared.supplies.DataReceivedAcknowledgement.{DataReceivedAcknowledgement}
use Rattle.siri_subscriptions.specs.declared.replies.refusal.Refusal.TheVariants as refused
use Rattle.siri_subscriptions.specs.replies.Refusals.{refusal_text}

-- the answer at a moment to the question whether the producer is there: it is, since the moment of its start
unfoldable pub status_response : (producer : List ℕ) → (now started : ℕ) → CheckStatusRequest → CheckStatusResponse
status_response producer now started request = record {
  response_timestamp = Some now;
  producer_ref = Some producer;
  request_message_ref = request.message_identifier;
  status = true;
  service_started_time = Some started;
}

-- a heartbeat at a moment
unfoldable pub heartbeat : (producer : List ℕ) → (now started : ℕ) → HeartbeatNotification
heartbeat producer now started = record {
  request_timestamp = Some now;
  producer_ref = Some producer;
  status = true;
  service_started_time = Some started;
}

-- ---- the answer to a feed

-- nothing of a feed was refused
abbrev pub is_whole : ℕ → Bool
is_whole zero = true
is_whole (suc full) = false

-- the ErrorText where some items of a feed were refused
abbrev pub full_text : ℕ → Option (List ℕ)
full_text zero = None
full_text (suc full) = Some (refusal_text (refused.StoreFull (suc full)))

-- the answer at a moment to a feed, by its ResponseMessageIdentifier, of which so many items were refused: Status is
-- false exactly where there are some
unfoldable pub feed_acknowledgement : (producer : List ℕ) → (now : ℕ) → (identifier : Option (List ℕ)) → (full : ℕ)
    → DataReceivedAcknowledgement
feed_acknowledgement producer now identifier full = record {
  response_timestamp = Some now;
  consumer_ref = Some producer;
  request_message_ref = identifier;
  status = is_whole full;
  error_condition = full_text full;
  extensions = None;
}
