-- Tables that are written in byte order of their names, a lemma a table.
use Rattle.std.proofs.Common.{◌≡◌, true, false, List, [], ◌∷◌, ◌++◌, None, sym, ◌∙◌, append_assoc, append-nil}
use Rattle.std.specs.Prelude.{ℤ, Bool, codes}
use Rattle.json.specs.Token.{Token, key, string, begin_object, end_object}
use Rattle.json.specs.Print.{print}
use Rattle.serde_json.proofs.Texts.{print-outline}
use Rattle.siri_json.specs.Tokens.{tokens_of}
use Rattle.siri_tables.specs.Appended.{row_tokens}
use Rattle.siri_time.specs.SpanText.{span_text}
use Rattle.siri_tables.proofs.Sorted.{rows_onto, sorted, object_in_order}
use Rattle.siri_messages.specs.declared.supplies.Mark.{Mark}
use Rattle.siri_tables.specs.Tables.{all_written}
use Rattle.siri_tables.specs.Writing.{row_object, written_span}
use Rattle.siri_deliveries.specs.declared.names.TheConstants.{DELIVERY_METHOD, EXTENSIONS, HEARTBEAT_INTERVAL, SIRI, SUBSCRIPTION_CONTEXT}
use Rattle.siri_messages.specs.declared.requests.ServiceRequest.{ServiceRequest}
use Rattle.siri_messages.specs.declared.supplies.DataReadyNotification.{DataReadyNotification}
use Rattle.siri_messages.specs.declared.supplies.DataReadyAcknowledgement.{DataReadyAcknowledgement}
use Rattle.siri_messages.specs.declared.supplies.DataSupplyRequest.{DataSupplyRequest}
use Rattle.siri_messages.specs.declared.supplies.DataReceivedAcknowledgement.{DataReceivedAcknowledgement}
use Rattle.siri_messages.specs.declared.statuses.CheckStatusRequest.{CheckStatusRequest}
use Rattle.siri_messages.specs.declared.statuses.CheckStatusResponse.{CheckStatusResponse}
use Rattle.siri_messages.specs.declared.statuses.HeartbeatNotification.{HeartbeatNotification}
use Rattle.siri_topic.specs.declared.subscription.Subscription.{Subscription}
use Rattle.siri_messages.specs.declared.subscriptions.SubscriptionRequest.{SubscriptionRequest}
use Rattle.siri_messages.specs.declared.subscriptions.SubscriptionResponse.{SubscriptionResponse}
use Rattle.siri_messages.specs.declared.subscriptions.ResponseStatus.{ResponseStatus}
use Rattle.siri_messages.specs.declared.terminations.TerminateSubscriptionRequest.{TerminateSubscriptionRequest}
use Rattle.siri_messages.specs.declared.terminations.TerminateSubscriptionResponse.{TerminateSubscriptionResponse}
use Rattle.siri_messages.specs.declared.terminations.TerminationResponseStatus.{TerminationResponseStatus}
use Rattle.siri_records.specs.declared.item.Service.TheVariants as service
use Rattle.siri_messages.specs.declared.message.Message.{Message}
use Rattle.siri_messages.specs.Kinds.{kind_of}
use Rattle.siri_wire.specs.Supplies.{mark_table, ready_table, written_data_ready, ready_acknowledgement_table}
use Rattle.siri_wire.specs.Supplies.{written_ready_acknowledgement, supply_table, written_supply, received_table, written_received}
use Rattle.siri_wire.specs.Statuses.{check_table, written_check_status, check_response_table, written_status_response, heartbeat_table, written_heartbeat}
use Rattle.siri_wire.specs.Requests.{service_request_table, written_service_request}
use Rattle.siri_wire.specs.Subscriptions.{written_method, subscription_table, subscription_request_table, written_subscription_request}
use Rattle.siri_wire.specs.Subscriptions.{response_status_table, subscription_response_table, written_subscription_response}
use Rattle.siri_wire.specs.Terminations.{termination_table, written_termination, termination_status_table, termination_response_table}
use Rattle.siri_wire.specs.Terminations.{written_termination_response}
use Rattle.siri_wire.specs.Canonical.{written_body, written_message, canonical}
use Rattle.siri_deliveries.proofs.InOrder.{regroup_row}

pub mark_in_order : (old : List Token) (m : Mark) → rows_onto (old ++ begin_object ∷ [])
    (sorted (all_written mark_table m)) ++ end_object ∷ [] ≡ old ++ tokens_of (row_object (all_written mark_table m))
mark_in_order old m = object_in_order old (all_written mark_table m)

pub check_status_in_order : (old : List Token) (c : CheckStatusRequest)
    → rows_onto (old ++ begin_object ∷ []) (sorted (all_written check_table c)) ++ end_object ∷ [] ≡ old
    ++ tokens_of (written_check_status c)
unfolding written_check_status
check_status_in_order old c = object_in_order old (all_written check_table c)

pub status_response_in_order : (old : List Token) (r : CheckStatusResponse)
    → rows_onto (old ++ begin_object ∷ []) (sorted (all_written check_response_table r)) ++ end_object ∷ [] ≡ old
    ++ tokens_of (written_status_response r)
unfolding written_status_response
status_response_in_order old r = object_in_order old (all_written check_response_table r)

pub heartbeat_in_order : (old : List Token) (h : HeartbeatNotification)
    → rows_onto (old ++ begin_object ∷ []) (sorted (all_written heartbeat_table h)) ++ end_object ∷ [] ≡ old
    ++ tokens_of (written_heartbeat h)
unfolding written_heartbeat
heartbeat_in_order old h = object_in_order old (all_written heartbeat_table h)

pub service_request_in_order : (old : List Token) (r : ServiceRequest)
    → rows_onto (old ++ begin_object ∷ []) (sorted (all_written service_request_table r)) ++ end_object ∷ [] ≡ old
    ++ tokens_of (written_service_request r)
unfolding written_service_request
service_request_in_order old r = object_in_order old (all_written service_request_table r)

pub data_ready_in_order : (old : List Token) (n : DataReadyNotification)
    → rows_onto (old ++ begin_object ∷ []) (sorted (all_written ready_table n)) ++ end_object ∷ [] ≡ old
    ++ tokens_of (written_data_ready n)
unfolding written_data_ready
data_ready_in_order old n = object_in_order old (all_written ready_table n)

pub ready_acknowledgement_in_order : (old : List Token) (a : DataReadyAcknowledgement)
    → rows_onto (old ++ begin_object ∷ []) (sorted (all_written ready_acknowledgement_table a)) ++ end_object ∷ [] ≡ old
    ++ tokens_of (written_ready_acknowledgement a)
unfolding written_ready_acknowledgement
ready_acknowledgement_in_order old a = object_in_order old (all_written ready_acknowledgement_table a)

pub supply_in_order : (old : List Token) (r : DataSupplyRequest)
    → rows_onto (old ++ begin_object ∷ []) (sorted (all_written supply_table r)) ++ end_object ∷ [] ≡ old
    ++ tokens_of (written_supply r)
unfolding written_supply
supply_in_order old r = object_in_order old (all_written supply_table r)

pub received_in_order : (old : List Token) (a : DataReceivedAcknowledgement)
    → rows_onto (old ++ begin_object ∷ []) (sorted (all_written received_table a)) ++ end_object ∷ [] ≡ old
    ++ tokens_of (written_received a)
unfolding written_received
received_in_order old a = object_in_order old (all_written received_table a)

pub stop_subscription_in_order : (old : List Token) (w : Subscription)
    → rows_onto (old ++ begin_object ∷ []) (sorted (all_written (subscription_table service.Stop None) w))
    ++ end_object ∷ [] ≡ old ++ tokens_of (row_object (all_written (subscription_table service.Stop None) w))
stop_subscription_in_order old w = object_in_order old (all_written (subscription_table service.Stop None) w)

pub timetable_subscription_in_order : (old : List Token) (w : Subscription)
    → rows_onto (old ++ begin_object ∷ []) (sorted (all_written (subscription_table service.Timetable None) w))
    ++ end_object ∷ [] ≡ old ++ tokens_of (row_object (all_written (subscription_table service.Timetable None) w))
timetable_subscription_in_order old w = object_in_order old (all_written (subscription_table service.Timetable None) w)

pub vehicle_subscription_in_order : (old : List Token) (w : Subscription)
    → rows_onto (old ++ begin_object ∷ []) (sorted (all_written (subscription_table service.Vehicle None) w))
    ++ end_object ∷ [] ≡ old ++ tokens_of (row_object (all_written (subscription_table service.Vehicle None) w))
vehicle_subscription_in_order old w = object_in_order old (all_written (subscription_table service.Vehicle None) w)

pub situation_subscription_in_order : (old : List Token) (w : Subscription)
    → rows_onto (old ++ begin_object ∷ []) (sorted (all_written (subscription_table service.Situation None) w))
    ++ end_object ∷ [] ≡ old ++ tokens_of (row_object (all_written (subscription_table service.Situation None) w))
situation_subscription_in_order old w = object_in_order old (all_written (subscription_table service.Situation None) w)

pub subscription_request_in_order : (old : List Token) (r : SubscriptionRequest)
    → rows_onto (old ++ begin_object ∷ []) (sorted (all_written (subscription_request_table r.requestor_ref) r))
    ++ end_object ∷ [] ≡ old ++ tokens_of (written_subscription_request r)
unfolding written_subscription_request
subscription_request_in_order old r = object_in_order old (all_written (subscription_request_table r.requestor_ref) r)

pub response_status_in_order : (old : List Token) (s : ResponseStatus)
    → rows_onto (old ++ begin_object ∷ []) (sorted (all_written response_status_table s)) ++ end_object ∷ [] ≡ old
    ++ tokens_of (row_object (all_written response_status_table s))
response_status_in_order old s = object_in_order old (all_written response_status_table s)

pub subscription_response_in_order : (old : List Token) (r : SubscriptionResponse)
    → rows_onto (old ++ begin_object ∷ []) (sorted (all_written subscription_response_table r)) ++ end_object ∷ [] ≡ old
    ++ tokens_of (written_subscription_response r)
unfolding written_subscription_response
subscription_response_in_order old r = object_in_order old (all_written subscription_response_table r)

pub termination_in_order : (old : List Token) (r : TerminateSubscriptionRequest)
    → rows_onto (old ++ begin_object ∷ []) (sorted (all_written termination_table r)) ++ end_object ∷ [] ≡ old
    ++ tokens_of (written_termination r)
unfolding written_termination
termination_in_order old r = object_in_order old (all_written termination_table r)

pub termination_status_in_order : (old : List Token) (s : TerminationResponseStatus)
    → rows_onto (old ++ begin_object ∷ []) (sorted (all_written termination_status_table s)) ++ end_object ∷ [] ≡ old
    ++ tokens_of (row_object (all_written termination_status_table s))
termination_status_in_order old s = object_in_order old (all_written termination_status_table s)

pub termination_response_in_order : (old : List Token) (r : TerminateSubscriptionResponse)
    → rows_onto (old ++ begin_object ∷ []) (sorted (all_written termination_response_table r)) ++ end_object ∷ [] ≡ old
    ++ tokens_of (written_termination_response r)
unfolding written_termination_response
termination_response_in_order old r = object_in_order old (all_written termination_response_table r)

-- ---- values and objects in forms of their own

regroup_method : (old : List Token) (k b m t e : Token) → ((((old ++ k ∷ []) ++ b ∷ []) ++ m ∷ []) ++ t ∷ []) ++ e ∷ [] ≡ old ++ k ∷ b ∷ m ∷ t ∷ e ∷ []
regroup_method old k b m t e = simp append_assoc

pub method_in_order : (old : List Token) (fetched : Bool) → fetched ≡ true
    → ((((old ++ key EXTENSIONS.now ∷ []) ++ begin_object ∷ []) ++ key DELIVERY_METHOD.now ∷ []) ++ string (codes "fetched") ∷ []) ++ end_object ∷ []
    ≡ old ++ row_tokens EXTENSIONS.now (written_method fetched)
unfolding written_method
method_in_order old fetched is = rw is (regroup_method old (key EXTENSIONS.now) begin_object (key DELIVERY_METHOD.now) (string (codes "fetched")) end_object)

pub method_left_out : (old : List Token) (fetched : Bool) → fetched ≡ false → old ≡ old ++ row_tokens EXTENSIONS.now (written_method fetched)
unfolding written_method
method_left_out old fetched is = rw is (sym (append-nil old))

pub context_in_order : (old : List Token) (s : ℤ)
    → (((old ++ key SUBSCRIPTION_CONTEXT.now ∷ []) ++ begin_object ∷ []) ++ row_tokens HEARTBEAT_INTERVAL.now (written_span s)) ++ end_object ∷ []
    ≡ old ++ key SUBSCRIPTION_CONTEXT.now ∷ begin_object ∷ key HEARTBEAT_INTERVAL.now ∷ string (span_text s) ∷ end_object ∷ []
context_in_order old s = regroup_row old (row_tokens HEARTBEAT_INTERVAL.now (written_span s)) (key SUBSCRIPTION_CONTEXT.now) begin_object end_object

-- ---- documents

regroup_message : (old a : List Token) (b s c k e f : Token)
    → ((((((old ++ b ∷ []) ++ s ∷ []) ++ c ∷ []) ++ k ∷ []) ++ a) ++ e ∷ []) ++ f ∷ [] ≡ old
    ++ b ∷ s ∷ c ∷ k ∷ (a ++ e ∷ f ∷ [])
regroup_message old a b s c k e f = simp append_assoc

regroup_body : (old a : List Token) (b s c k e f : Token) → old ++ b ∷ s ∷ ((c ∷ k ∷ (a ++ e ∷ [])) ++ f ∷ []) ≡ old ++ b ∷ s ∷ c ∷ k ∷ (a ++ e ∷ f ∷ [])
regroup_body old a b s c k e f = simp append_assoc

pub message_in_order : (old : List Token) (m : Message)
    → ((((((old ++ begin_object ∷ []) ++ key SIRI.now ∷ []) ++ begin_object ∷ []) ++ key (kind_of m) ∷ [])
    ++ tokens_of (written_body m)) ++ end_object ∷ []) ++ end_object ∷ []
    ≡ old ++ tokens_of (written_message m)
unfolding written_message
message_in_order old m =
    regroup_message old (tokens_of (written_body m)) begin_object (key SIRI.now) begin_object (key (kind_of m)) end_object end_object
    ∙ sym (regroup_body old (tokens_of (written_body m)) begin_object (key SIRI.now) begin_object (key (kind_of m)) end_object end_object)

pub message_said : (m : Message) → print ([] ++ tokens_of (written_message m)) ≡ canonical m
unfolding canonical
message_said m = print-outline (written_message m)
