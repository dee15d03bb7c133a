-- The tables of requests for subscriptions, and of their answers: a line a row.
use Rattle.std.specs.Prelude.{◌≡◌, ⊤, option_and_then, ℕ, ℤ, pos, List, [], ◌∷◌, length, codes, bytes_eq, ◌==◌, ◌&&◌, Bool, true, false}
use Rattle.std.specs.Prelude.{if◌then◌else◌, Option, Some, None, unwrap_or, Result, Ok}
use Rattle.serde_json.specs.Data.{Data, no_members}
use Rattle.siri_base.specs.declared.reason.Reason.TheVariants.{NotCarried}
use Rattle.siri_records.specs.declared.item.Service.{Service}
use Rattle.siri_records.specs.declared.item.Service.TheVariants as service
use Rattle.siri_topic.specs.declared.subscription.Subscription.{Subscription}
use Rattle.siri_topic.specs.declared.topics.Topic.{Topic}
use Rattle.siri_messages.specs.declared.subscriptions.ResponseStatus.{ResponseStatus}
use Rattle.siri_messages.specs.declared.subscriptions.SubscriptionRequest.{SubscriptionRequest}
use Rattle.siri_messages.specs.declared.subscriptions.SubscriptionResponse.{SubscriptionResponse}
use Rattle.siri_tables.specs.Refusals.{Refusal, ◌>>=◌, refused}
use Rattle.siri_tables.specs.Rules.{name, text, moment, non_negative_span, number, table, row, required_row, inside, list}
use Rattle.siri_tables.specs.Spelling.{Spells}
use Rattle.siri_tables.specs.Proper.{IsNonNegativeSpan}
use Rattle.siri_tables.specs.Tables.{Kind, Row, optional, mandatory, a_name, a_moment, a_flag, Table, Maker, read_all, AllProper, all_written}
use Rattle.siri_tables.specs.Writing.{row_object, with_rows, object_unless_empty, written_text, written_span}
use Rattle.siri_deliveries.specs.declared.names.TheConstants.{REQUEST_TIMESTAMP, REQUESTOR_REF, MESSAGE_IDENTIFIER, CONSUMER_ADDRESS}
use Rattle.siri_deliveries.specs.declared.names.TheConstants.{SUBSCRIPTION_CONTEXT, HEARTBEAT_INTERVAL}
use Rattle.siri_deliveries.specs.declared.names.TheConstants.{STOP_MONITORING_SUBSCRIPTION_REQUEST}
use Rattle.siri_deliveries.specs.declared.names.TheConstants.{ESTIMATED_TIMETABLE_SUBSCRIPTION_REQUEST}
use Rattle.siri_deliveries.specs.declared.names.TheConstants.{VEHICLE_MONITORING_SUBSCRIPTION_REQUEST}
use Rattle.siri_deliveries.specs.declared.names.TheConstants.{SITUATION_EXCHANGE_SUBSCRIPTION_REQUEST, SUBSCRIPTION_IDENTIFIER}
use Rattle.siri_deliveries.specs.declared.names.TheConstants.{INITIAL_TERMINATION_TIME, STOP_MONITORING_REQUEST}
use Rattle.siri_deliveries.specs.declared.names.TheConstants.{ESTIMATED_TIMETABLE_REQUEST, VEHICLE_MONITORING_REQUEST}
use Rattle.siri_deliveries.specs.declared.names.TheConstants.{SITUATION_EXCHANGE_REQUEST, INCREMENTAL_UPDATES, CHANGE_BEFORE_UPDATES}
use Rattle.siri_deliveries.specs.declared.names.TheConstants.{EXTENSIONS, DELIVERY_METHOD, RESPONSE_TIMESTAMP, REQUEST_MESSAGE_REF}
use Rattle.siri_deliveries.specs.declared.names.TheConstants.{RESPONSE_STATUS, SUBSCRIBER_REF, SUBSCRIPTION_REF, STATUS, VALID_UNTIL}
use Rattle.siri_deliveries.specs.declared.names.TheConstants.{ERROR_CONDITION}
use Rattle.siri_wire.specs.declared.read_subscriptions.RequestedSubscriptions.{RequestedSubscriptions}
use Rattle.siri_deliveries.specs.Rows.{a_whole_span, an_error, SpellsOr, with_default, entries, optional_inside}
use Rattle.siri_wire.specs.Identifiers.{an_identifier}
use Rattle.siri_wire.specs.Limits.{most_subscriptions, most_statuses}
use Rattle.siri_wire.specs.Subscribers.{the_subscriber}
use Rattle.siri_deliveries.specs.Topics.{topic_rows, topic_writing, a_topic}

-- ---- the element of a subscription

-- the name of a service's request
abbrev pub request_of : Service → List ℕ
request_of service.Stop = STOP_MONITORING_REQUEST.now
request_of service.Timetable = ESTIMATED_TIMETABLE_REQUEST.now
request_of service.Vehicle = VEHICLE_MONITORING_REQUEST.now
request_of service.Situation = SITUATION_EXCHANGE_REQUEST.now

-- the topic of a subscription to a service
unfoldable pub topic_of : Service → Data → Result Topic Refusal
topic_of s d = required_row (table (topic_rows s)) (request_of s) d

-- its row, under the name of the service's request
abbrev pub the_topic : {S : Type 0} → Service → (S → Topic) → Row S
the_topic s of = record {
  Of = Topic;
  of = of;
  read = topic_of s;
  Spelled = λ d t. Spells (table (topic_rows s)) (request_of s) d (Some t);
  write = λ t. (request_of s, topic_writing t) ∷ [];
  Is = (a_topic s).Is;
  blank = λ t. false;
}

-- the change that is too small to be told, which SX has no row for
unfoldable pub slack_of : Service → Data → Result (Option ℤ) Refusal
slack_of service.Situation d = Ok None
slack_of other d = row non_negative_span CHANGE_BEFORE_UPDATES.now d

abbrev pub written_slack : Service → ℤ → Option Data
written_slack service.Situation slack = None
written_slack other slack = written_span slack

-- ChangeBeforeUpdates, which is zero where it is absent, and in SX
abbrev pub SpellsSlack : Service → Data → ℤ → Type 0
SpellsSlack service.Situation d slack = slack ≡ pos 0
SpellsSlack other d slack = SpellsOr non_negative_span CHANGE_BEFORE_UPDATES.now d (pos 0) slack

abbrev pub IsSlack : Service → ℤ → Type 0
IsSlack service.Situation slack = slack ≡ pos 0
IsSlack other slack = IsNonNegativeSpan slack

-- its row
abbrev pub the_slack : {S : Type 0} → Service → (S → ℤ) → Row S
the_slack s of = record {
  Of = ℤ;
  of = of;
  read = λ d. slack_of s d >>= λ o. Ok (unwrap_or o (pos 0));
  Spelled = SpellsSlack s;
  write = λ v. (CHANGE_BEFORE_UPDATES.now, written_slack s v) ∷ [];
  Is = IsSlack s;
  blank = λ v. false;
}

-- `fetched`, and otherwise direct
abbrev pub is_fetched : Option (List ℕ) → Bool
is_fetched None = false
is_fetched (Some method) = bytes_eq method (codes "fetched")

-- DeliveryMethod in Extensions, which is `fetched`, or otherwise direct
pub record SpellsMethod (d : Data) (fetched : Bool) : Type 0 where
  pub method : Option (List ℕ)
  pub spelled : Spells (inside text DELIVERY_METHOD.now) EXTENSIONS.now d method
  pub is : fetched ≡ is_fetched method

-- Extensions of a subscription that is fetched; nothing of one that is delivered directly
unfoldable pub written_method : Bool → Option Data
written_method true = Some (row_object ((DELIVERY_METHOD.now, written_text (codes "fetched")) ∷ []))
written_method false = None

-- its row
abbrev pub the_method : {S : Type 0} → (S → Bool) → Row S
the_method of = record {
  Of = Bool;
  of = of;
  read = λ d. row (inside text DELIVERY_METHOD.now) EXTENSIONS.now d >>= λ o. Ok (is_fetched o);
  Spelled = SpellsMethod;
  write = λ v. (EXTENSIONS.now, written_method v) ∷ [];
  Is = λ v. ⊤;
  blank = λ v. false;
}

-- the element of a subscription to a service (EN 15531-2), but for its subscriber
abbrev pub element_table : Service → Table Subscription
element_table s =
    mandatory a_name SUBSCRIPTION_IDENTIFIER.now (λ x. x.identifier) ∷
    mandatory a_moment INITIAL_TERMINATION_TIME.now (λ x. x.termination) ∷
    the_topic s (λ x. x.topic) ∷
    with_default a_flag true INCREMENTAL_UPDATES.now (λ x. x.incremental) ∷
    the_slack s (λ x. x.slack) ∷
    the_method (λ x. x.fetched) ∷ []

-- the same in a message of this requestor
abbrev pub subscription_table : Service → Option (List ℕ) → Table Subscription
subscription_table s requestor = the_subscriber requestor (λ x. x.subscriber) ∷ element_table s

abbrev pub make_subscription : (s : Service) (requestor : Option (List ℕ)) → Maker (subscription_table s requestor)
make_subscription s requestor =
    λ subscriber identifier termination topic incremental slack fetched.
    record {
      subscriber = subscriber;
      identifier = identifier;
      termination = termination;
      topic = topic;
      slack = slack;
      incremental = incremental;
      fetched = fetched;
    }

unfoldable pub subscription : Service → Option (List ℕ) → Data → Result Subscription Refusal
subscription s requestor d = read_all (subscription_table s requestor) (make_subscription s requestor) d

unfoldable pub written_subscription : Service → Subscription → Data
written_subscription s x = row_object (all_written (subscription_table s None) x)

abbrev pub a_subscription : Service → Option (List ℕ) → Kind Subscription
a_subscription s requestor = record {
  rule = table (subscription s requestor);
  writing = λ x. Some (written_subscription s x);
  Is = AllProper (subscription_table s requestor);
}

-- StopMonitoringSubscriptionRequest
abbrev pub written_stop_subscription : Subscription → Option Data
written_stop_subscription = (a_subscription service.Stop None).writing

-- EstimatedTimetableSubscriptionRequest
abbrev pub written_timetable_subscription : Subscription → Option Data
written_timetable_subscription = (a_subscription service.Timetable None).writing

-- VehicleMonitoringSubscriptionRequest
abbrev pub written_vehicle_subscription : Subscription → Option Data
written_vehicle_subscription = (a_subscription service.Vehicle None).writing

-- SituationExchangeSubscriptionRequest, which has no ChangeBeforeUpdates
abbrev pub written_situation_subscription : Subscription → Option Data
written_situation_subscription = (a_subscription service.Situation None).writing

-- ---- requests

-- how often a heartbeat is requested
unfoldable pub heartbeat_interval : Data → Result (Option ℤ) Refusal
heartbeat_interval d = row (inside non_negative_span HEARTBEAT_INTERVAL.now) SUBSCRIPTION_CONTEXT.now d

-- SubscriptionContext, which isn't written where it would be empty
abbrev pub written_context : Option ℤ → Option Data
written_context heartbeat = object_unless_empty (with_rows no_members ((HEARTBEAT_INTERVAL.now, option_and_then written_span heartbeat) ∷ []))

-- what is requested: the heartbeat, and the subscriptions of the four services
unfoldable pub read_requested_rows : Option (List ℕ) → Data → Result RequestedSubscriptions Refusal
read_requested_rows requestor d = do
  heartbeat_interval ← heartbeat_interval d
  stops ← list (table (subscription service.Stop requestor)) most_subscriptions STOP_MONITORING_SUBSCRIPTION_REQUEST.now d
  timetables ← list (table (subscription service.Timetable requestor)) most_subscriptions ESTIMATED_TIMETABLE_SUBSCRIPTION_REQUEST.now d
  vehicles ← list (table (subscription service.Vehicle requestor)) most_subscriptions VEHICLE_MONITORING_SUBSCRIPTION_REQUEST.now d
  situations ← list (table (subscription service.Situation requestor)) most_subscriptions SITUATION_EXCHANGE_SUBSCRIPTION_REQUEST.now d
  Ok (record { heartbeat_interval = heartbeat_interval; stops = stops; timetables = timetables; vehicles = vehicles; situations = situations })

abbrev pub requests_nothing : RequestedSubscriptions → Bool
requests_nothing w = length w.stops == 0 && length w.timetables == 0 && length w.vehicles == 0 && length w.situations == 0

-- a request for no subscription isn't carried
abbrev pub unless_for_none : RequestedSubscriptions → Result RequestedSubscriptions Refusal
unless_for_none w = if requests_nothing w then refused NotCarried else Ok w

unfoldable pub requested : Option (List ℕ) → Data → Result RequestedSubscriptions Refusal
requested requestor d = read_requested_rows requestor d >>= unless_for_none

-- the subscriptions that a request asks for
abbrev pub requested_by : SubscriptionRequest → RequestedSubscriptions
requested_by m = record {
  heartbeat_interval = m.heartbeat_interval;
  stops = m.stop_monitoring_subscription_request;
  timetables = m.estimated_timetable_subscription_request;
  vehicles = m.vehicle_monitoring_subscription_request;
  situations = m.situation_exchange_subscription_request;
}

-- SubscriptionRequest: a request for subscriptions (EN 15531-2), where this is its requestor
abbrev pub subscription_request_table : Option (List ℕ) → Table SubscriptionRequest
subscription_request_table requestor =
    optional a_moment REQUEST_TIMESTAMP.now (λ m. m.request_timestamp) ∷
    optional a_name REQUESTOR_REF.now (λ m. m.requestor_ref) ∷
    mandatory an_identifier MESSAGE_IDENTIFIER.now (λ m. m.message_identifier) ∷
    optional a_name CONSUMER_ADDRESS.now (λ m. m.consumer_address) ∷
    optional_inside a_whole_span SUBSCRIPTION_CONTEXT.now HEARTBEAT_INTERVAL.now (λ m. m.heartbeat_interval) ∷
    entries (a_subscription service.Stop requestor) most_subscriptions STOP_MONITORING_SUBSCRIPTION_REQUEST.now (λ m. m.stop_monitoring_subscription_request) ∷
    entries (a_subscription service.Timetable requestor) most_subscriptions ESTIMATED_TIMETABLE_SUBSCRIPTION_REQUEST.now (λ m. m.estimated_timetable_subscription_request) ∷
    entries (a_subscription service.Vehicle requestor) most_subscriptions VEHICLE_MONITORING_SUBSCRIPTION_REQUEST.now (λ m. m.vehicle_monitoring_subscription_request) ∷
    entries (a_subscription service.Situation requestor) most_subscriptions SITUATION_EXCHANGE_SUBSCRIPTION_REQUEST.now (λ m. m.situation_exchange_subscription_request) ∷ []

abbrev pub make_subscription_request : (requestor : Option (List ℕ)) → Maker (subscription_request_table requestor)
make_subscription_request requestor =
    λ request_timestamp requestor_ref message_identifier consumer_address heartbeat_interval stops timetables vehicles situations.
    record {
      request_timestamp = request_timestamp;
      requestor_ref = requestor_ref;
      message_identifier = message_identifier;
      consumer_address = consumer_address;
      heartbeat_interval = heartbeat_interval;
      stop_monitoring_subscription_request = stops;
      estimated_timetable_subscription_request = timetables;
      vehicle_monitoring_subscription_request = vehicles;
      situation_exchange_subscription_request = situations;
    }

-- the requestor is read with it
unfoldable pub subscription_request : Data → Result SubscriptionRequest Refusal
subscription_request d = do
  request_timestamp ← row moment REQUEST_TIMESTAMP.now d
  requestor_ref ← row name REQUESTOR_REF.now d
  message_identifier ← required_row number MESSAGE_IDENTIFIER.now d
  consumer_address ← row name CONSUMER_ADDRESS.now d
  w ← requested requestor_ref d
  Ok (make_subscription_request requestor_ref request_timestamp requestor_ref message_identifier consumer_address
      w.heartbeat_interval w.stops w.timetables w.vehicles w.situations)

unfoldable pub written_subscription_request : SubscriptionRequest → Data
written_subscription_request m = row_object (all_written (subscription_request_table m.requestor_ref) m)

-- ---- answers

-- ResponseStatus: what became of a subscription that was asked for (EN 15531-2)
abbrev pub response_status_table : Table ResponseStatus
response_status_table =
    optional a_name SUBSCRIBER_REF.now (λ r. r.subscriber_ref) ∷
    optional a_name SUBSCRIPTION_REF.now (λ r. r.subscription_ref) ∷
    with_default a_flag true STATUS.now (λ r. r.status) ∷
    optional a_moment VALID_UNTIL.now (λ r. r.valid_until) ∷
    optional an_error ERROR_CONDITION.now (λ r. r.error_condition) ∷ []

abbrev pub make_response_status : Maker response_status_table
make_response_status =
    λ subscriber_ref subscription_ref status valid_until error_condition.
    record {
      subscriber_ref = subscriber_ref;
      subscription_ref = subscription_ref;
      status = status;
      valid_until = valid_until;
      error_condition = error_condition;
    }

unfoldable pub response_status : Data → Result ResponseStatus Refusal
response_status d = read_all response_status_table make_response_status d

unfoldable pub written_response_status : ResponseStatus → Option Data
written_response_status r = Some (row_object (all_written response_status_table r))

abbrev pub a_response_status : Kind ResponseStatus
a_response_status = record { rule = table response_status; writing = written_response_status; Is = AllProper response_status_table }

-- SubscriptionResponse: the answer to a request for subscriptions (EN 15531-2)
abbrev pub subscription_response_table : Table SubscriptionResponse
subscription_response_table =
    optional a_moment RESPONSE_TIMESTAMP.now (λ m. m.response_timestamp) ∷
    optional a_name REQUEST_MESSAGE_REF.now (λ m. m.request_message_ref) ∷
    entries a_response_status most_statuses RESPONSE_STATUS.now (λ m. m.response_status) ∷ []

abbrev pub make_subscription_response : Maker subscription_response_table
make_subscription_response =
    λ response_timestamp request_message_ref response_status.
    record { response_timestamp = response_timestamp; request_message_ref = request_message_ref; response_status = response_status }

unfoldable pub subscription_response : Data → Result SubscriptionResponse Refusal
subscription_response d = read_all subscription_response_table make_subscription_response d

unfoldable pub written_subscription_response : SubscriptionResponse → Data
written_subscription_response m = row_object (all_written subscription_response_table m)
