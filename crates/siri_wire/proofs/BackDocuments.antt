-- What was written is read again: whole documents.
use Rattle.std.proofs.Common.{◌≡◌, ℕ, ◌≤◌, Bool, true, false, cond, nat_lt, List, [], ◌∷◌, ◌++◌, length, bytes_eq, filter, Option, Some}
use Rattle.std.proofs.Common.{None, Result, Ok, refl, ap, ◌∙◌, subst, arith}
use Rattle.std.proofs.lemmas.Bool.{le-ltb}
use Rattle.serde_json.specs.Data.{Data, object, Members, no_members}
use Rattle.siri_json.specs.Canonical.{as_texts}
use Rattle.siri_json.specs.Tree.{tree_of, longest_document}
use Rattle.siri_json.specs.Values.{object_in}
use Rattle.siri_json.proofs.LineFeed.{tree_of-line}
use Rattle.siri_json.proofs.Read.{tree_of-compact_text}
use Rattle.siri_messages.specs.declared.message.Message.{Message}
use Rattle.siri_messages.specs.declared.message.Message.TheVariants as message
use Rattle.siri_messages.specs.Kinds.{kind_of}
use Rattle.siri_tables.specs.Refusals.{Refusal}
use Rattle.siri_tables.specs.Rules.{table, required_row}
use Rattle.siri_tables.specs.Writing.{Row, with_rows, row_object}
use Rattle.siri_tables.proofs.Back.{found_again, member_again, row_again}
use Rattle.siri_tables.proofs.BackValues.{table_back}
use Rattle.siri_tables.proofs.BackLists.{only_row}
use Rattle.siri_tables.proofs.CanonicalParts.{are_ascii, IsCanonicalWithin, row_within, ◌then◌, object_within}
use Rattle.siri_tables.proofs.RowSpells.{required_row_ok}
use Rattle.siri_tables.proofs.TableLaws.{written_read, table_within}
use Rattle.siri_wire.specs.declared.kinds.Kind.{Kind}
use Rattle.siri_deliveries.specs.declared.names.TheConstants.{SIRI, CHECK_STATUS_REQUEST, CHECK_STATUS_RESPONSE, DATA_READY_ACKNOWLEDGEMENT}
use Rattle.siri_deliveries.specs.declared.names.TheConstants.{DATA_READY_NOTIFICATION, DATA_RECEIVED_ACKNOWLEDGEMENT, DATA_SUPPLY_REQUEST}
use Rattle.siri_deliveries.specs.declared.names.TheConstants.{HEARTBEAT_NOTIFICATION, SERVICE_DELIVERY, SERVICE_REQUEST}
use Rattle.siri_deliveries.specs.declared.names.TheConstants.{SUBSCRIPTION_REQUEST, SUBSCRIPTION_RESPONSE, TERMINATE_SUBSCRIPTION_REQUEST}
use Rattle.siri_deliveries.specs.declared.names.TheConstants.{TERMINATE_SUBSCRIPTION_RESPONSE}
use Rattle.siri_wire.specs.Canonical.{written_body, written_message, canonical}
use Rattle.siri_deliveries.specs.Deliveries.{service_delivery, written_service_delivery}
use Rattle.siri_wire.specs.Documents.{kinds, name_of, message_at, is_member_there, holds, held, only, only_held, siri, root, message_of}
use Rattle.siri_wire.specs.laws.ProperMessages.{IsProper}
use Rattle.siri_wire.specs.Requests.{service_request, written_service_request}
use Rattle.siri_wire.specs.laws.SpellingDocuments.{kind_in}
use Rattle.siri_wire.specs.Statuses.{check_status_request, check_status_response, heartbeat_notification, written_check_status}
use Rattle.siri_wire.specs.Statuses.{written_status_response, written_heartbeat}
use Rattle.siri_wire.specs.Subscriptions.{subscription_request, subscription_response, written_subscription_request, written_subscription_response}
use Rattle.siri_wire.specs.Supplies.{data_ready_notification, data_ready_acknowledgement, data_supply_request}
use Rattle.siri_wire.specs.Supplies.{data_received_acknowledgement, written_data_ready, written_ready_acknowledgement, written_supply}
use Rattle.siri_wire.specs.Supplies.{written_received}
use Rattle.siri_wire.specs.Terminations.{termination_request, termination_response, written_termination, written_termination_response}
use Rattle.siri_tables.proofs.TableLaws.{written_read, table_within}
use Rattle.siri_wire.proofs.DeliveryTables.{service_delivery_laws}
use Rattle.siri_wire.proofs.SupplyTables.{ready_laws, ready_acknowledgement_laws, supply_laws, received_laws}
use Rattle.siri_wire.proofs.SupplyTables.{check_laws}
use Rattle.siri_wire.proofs.SupplyTables.{check_response_laws, heartbeat_laws}
use Rattle.siri_wire.proofs.RequestTables.{service_request_back, service_request_within, subscription_response_laws, termination_response_laws}
use Rattle.siri_wire.proofs.SubscriptionTables.{subscription_request_back, subscription_request_within, termination_laws}

-- ---- the object of a message under its name

-- the rows of an object that holds a message
abbrev pub named : List ℕ → Members → List Row
named key ms = (key, Some (object ms)) ∷ []

-- what a reader finds in it
abbrev pub found_named : List ℕ → Members → Data
found_named key ms = as_texts (row_object (named key ms))

there_where : (b : Bool) (ms : Members) → is_member_there (found_again (cond b (Some (object ms)) None)) ≡ b
unfolding object_in
there_where true ms = refl
there_where false ms = refl

-- it holds what has its name
holds_named : (k key : List ℕ) (ms : Members) → holds k (found_named key ms) ≡ bytes_eq k key
unfolding holds
holds_named k key ms = ap is_member_there (member_again k (named key ms) (cond (bytes_eq k key) (Some (object ms)) None) refl) ∙ there_where (bytes_eq k key) ms

held_named : (key : List ℕ) (ms : Members) (among : List Kind) → held (found_named key ms) among ≡ filter (λ k. bytes_eq (name_of k) key) among
held_named key ms [] = refl
held_named key ms (k ∷ ks) = rw (holds_named (name_of k) key ms, held_named key ms ks) refl

-- a kind by its name
kind_named : List ℕ → Option Kind
kind_named key = only (filter (λ k. bytes_eq (name_of k) key) kinds)

only_named : (key : List ℕ) (ms : Members) → only_held (found_named key ms) ≡ kind_named key
unfolding only_held kind_named
only_named key ms = ap only (held_named key ms kinds)

-- ---- the message in it

kind_is : (m : Message) → kind_named (kind_of m) ≡ Some (kind_in m)
unfolding kind_named
kind_is (message.ServiceRequest m) = refl
kind_is m = refl

required_named : {A : Type 0} (rows : Data → Result A Refusal) (key : List ℕ) (ms : Members) (x : A)
    → rows (as_texts (object ms)) ≡ Ok x → required_row (table rows) key (found_named key ms) ≡ Ok x
required_named rows key ms x is =
    required_row_ok (table rows) key (found_named key ms) x
    (row_again (table rows) key (named key ms) (Some (object ms)) (Some x) (only_row key (Some (object ms)))
    (table_back rows ms x is))

object_read : {A : Type 0} (rows : Data → Result A Refusal) (d : Data) (ms : Members) (x : A) → d ≡ object ms
    → rows (as_texts d) ≡ Ok x → rows (as_texts (object ms)) ≡ Ok x
object_read rows d ms x is read = subst (λ (e : Data). rows (as_texts e) ≡ Ok x) is read

-- a message's own object is read as the message
body_back : (m : Message) (ms : Members) → IsProper m → written_body m ≡ object ms → message_at (kind_in m) (found_named (kind_of m) ms) ≡ Ok m
unfolding written_body subscription_response termination_request termination_response written_subscription_response
    written_termination written_termination_response service_delivery written_service_delivery data_ready_notification
    written_data_ready data_ready_acknowledgement written_ready_acknowledgement data_supply_request written_supply
    data_received_acknowledgement written_received check_status_request written_check_status check_status_response
    written_status_response
    heartbeat_notification written_heartbeat
body_back (message.ServiceRequest m) ms p is =
    rw (required_named service_request SERVICE_REQUEST.now ms m
    (object_read service_request (written_service_request m) ms m is (service_request_back m p))) refl
body_back (message.ServiceDelivery m) ms p is =
    rw (required_named service_delivery SERVICE_DELIVERY.now ms m
    (object_read service_delivery (written_service_delivery m) ms m is (written_read service_delivery_laws m p))) refl
body_back (message.SubscriptionRequest m) ms p is =
    rw (required_named subscription_request SUBSCRIPTION_REQUEST.now ms m
    (object_read subscription_request (written_subscription_request m) ms m is (subscription_request_back m p))) refl
body_back (message.SubscriptionResponse m) ms p is =
    rw (required_named subscription_response SUBSCRIPTION_RESPONSE.now ms m
    (object_read subscription_response (written_subscription_response m) ms m is
    (written_read subscription_response_laws m p))) refl
body_back (message.TerminateSubscriptionRequest m) ms p is =
    rw (required_named termination_request TERMINATE_SUBSCRIPTION_REQUEST.now ms m
    (object_read termination_request (written_termination m) ms m is (written_read termination_laws m p))) refl
body_back (message.TerminateSubscriptionResponse m) ms p is =
    rw (required_named termination_response TERMINATE_SUBSCRIPTION_RESPONSE.now ms m
    (object_read termination_response (written_termination_response m) ms m is
    (written_read termination_response_laws m p))) refl
body_back (message.DataReadyNotification m) ms p is =
    rw (required_named data_ready_notification DATA_READY_NOTIFICATION.now ms m
    (object_read data_ready_notification (written_data_ready m) ms m is (written_read ready_laws m p))) refl
body_back (message.DataReadyAcknowledgement m) ms p is =
    rw (required_named data_ready_acknowledgement DATA_READY_ACKNOWLEDGEMENT.now ms m
    (object_read data_ready_acknowledgement (written_ready_acknowledgement m) ms m is
    (written_read ready_acknowledgement_laws m p))) refl
body_back (message.DataSupplyRequest m) ms p is =
    rw (required_named data_supply_request DATA_SUPPLY_REQUEST.now ms m
    (object_read data_supply_request (written_supply m) ms m is (written_read supply_laws m p))) refl
body_back (message.DataReceivedAcknowledgement m) ms p is =
    rw (required_named data_received_acknowledgement DATA_RECEIVED_ACKNOWLEDGEMENT.now ms m
    (object_read data_received_acknowledgement (written_received m) ms m is (written_read received_laws m p))) refl
body_back (message.CheckStatusRequest m) ms p is =
    rw (required_named check_status_request CHECK_STATUS_REQUEST.now ms m
    (object_read check_status_request (written_check_status m) ms m is (written_read check_laws m p))) refl
body_back (message.CheckStatusResponse m) ms p is =
    rw (required_named check_status_response CHECK_STATUS_RESPONSE.now ms m
    (object_read check_status_response (written_status_response m) ms m is (written_read check_response_laws m p))) refl
body_back (message.HeartbeatNotification m) ms p is =
    rw (required_named heartbeat_notification HEARTBEAT_NOTIFICATION.now ms m
    (object_read heartbeat_notification (written_heartbeat m) ms m is (written_read heartbeat_laws m p))) refl

-- it is an object
body_members : (m : Message) → (ms : Members) × (written_body m ≡ object ms)
unfolding written_body written_service_request written_service_delivery written_subscription_request
    written_subscription_response written_termination written_termination_response written_data_ready
    written_ready_acknowledgement written_supply written_received written_check_status written_status_response
    written_heartbeat
body_members (message.ServiceRequest m) = (_, refl)
body_members m = (_, refl)

siri_back : (m : Message) (ms : Members) → IsProper m → written_body m ≡ object ms → siri (found_named (kind_of m) ms) ≡ Ok m
unfolding siri
siri_back m ms p is = rw (only_named (kind_of m) ms, kind_is m) (body_back m ms p is)

-- ---- documents

root_named : (d : Data) (ms : Members) (m : Message) → d ≡ object ms → siri (as_texts (object ms)) ≡ Ok m
    → root (as_texts (row_object ((SIRI.now, Some d) ∷ []))) ≡ Ok m
unfolding root
root_named d ms m is read = rw is (required_named siri SIRI.now ms m read)

pub message_back : (m : Message) → IsProper m → root (as_texts (written_message m)) ≡ Ok m
unfolding written_message
message_back m p =
    let body = body_members m in
    let inside = with_rows no_members (named (kind_of m) body.0) in
    root_named (row_object ((kind_of m, Some (written_body m)) ∷ [])) inside m (rw (body.1) refl) (siri_back m body.0 p body.1)

-- ---- their one text

pub body_within : (m : Message) → IsProper m → IsCanonicalWithin 13 (written_body m)
unfolding written_body written_subscription_response written_termination written_termination_response
    written_service_delivery written_data_ready written_ready_acknowledgement written_supply written_received
    written_check_status written_status_response written_heartbeat
body_within (message.ServiceRequest m) p = let is = service_request_within m p in record { canonical = is.canonical; shallow = omega (arith, is.shallow) }
body_within (message.ServiceDelivery m) p = table_within service_delivery_laws m p
body_within (message.SubscriptionRequest m) p = let is = subscription_request_within m p in
    record { canonical = is.canonical; shallow = omega (arith, is.shallow) }
body_within (message.SubscriptionResponse m) p = let is = table_within subscription_response_laws m p in
    record { canonical = is.canonical; shallow = omega (arith, is.shallow) }
body_within (message.TerminateSubscriptionRequest m) p = let is = table_within termination_laws m p in
    record { canonical = is.canonical; shallow = omega (arith, is.shallow) }
body_within (message.TerminateSubscriptionResponse m) p = let is = table_within termination_response_laws m p in
    record { canonical = is.canonical; shallow = omega (arith, is.shallow) }
body_within (message.DataReadyNotification m) p = let is = table_within ready_laws m p in
    record { canonical = is.canonical; shallow = omega (arith, is.shallow) }
body_within (message.DataReadyAcknowledgement m) p = let is = table_within ready_acknowledgement_laws m p in
    record { canonical = is.canonical; shallow = omega (arith, is.shallow) }
body_within (message.DataSupplyRequest m) p = let is = table_within supply_laws m p in
    record { canonical = is.canonical; shallow = omega (arith, is.shallow) }
body_within (message.DataReceivedAcknowledgement m) p = let is = table_within received_laws m p in
    record { canonical = is.canonical; shallow = omega (arith, is.shallow) }
body_within (message.CheckStatusRequest m) p = let is = table_within check_laws m p in record { canonical = is.canonical; shallow = omega (arith, is.shallow) }
body_within (message.CheckStatusResponse m) p = let is = table_within check_response_laws m p in
    record { canonical = is.canonical; shallow = omega (arith, is.shallow) }
body_within (message.HeartbeatNotification m) p = let is = table_within heartbeat_laws m p in
    record { canonical = is.canonical; shallow = omega (arith, is.shallow) }

ascii_kind : (m : Message) → are_ascii (kind_of m) ≡ true
ascii_kind (message.ServiceRequest m) = refl
ascii_kind m = refl

pub message_within : (m : Message) → IsProper m → IsCanonicalWithin 15 (written_message m)
unfolding written_message
message_within m p =
    let body : List Row = (kind_of m, Some (written_body m)) ∷ [] in
    let document : List Row = (SIRI.now, Some (row_object body)) ∷ [] in
    object_within 14 document (row_within 14 SIRI.now _ refl
    (object_within 13 body (row_within 13 (kind_of m) _ (ascii_kind m) (body_within m p) then tt)) then tt)

pub message_text : (m : Message) → IsProper m → tree_of (canonical m) ≡ Some (as_texts (written_message m))
unfolding canonical
message_text m p = let is = message_within m p in tree_of-compact_text (written_message m) is.canonical (omega (arith, is.shallow))

pub canonical_read : (m : Message) → IsProper m → length (canonical m) ≤ longest_document → message_of (canonical m) ≡ Ok m
unfolding message_of
canonical_read m p le =
    let short : nat_lt longest_document (length (canonical m)) ≡ false = le-ltb _ _ le in
    rw (short, message_text m p) (message_back m p)

-- ---- the same with a line feed at its end

line_text : (m : Message) → IsProper m → tree_of (canonical m ++ 10 ∷ []) ≡ Some (as_texts (written_message m))
unfolding canonical written_message
line_text m p =
    let is = message_within m p in
    tree_of-line (with_rows no_members ((SIRI.now, Some (row_object ((kind_of m, Some (written_body m)) ∷ []))) ∷ [])) is.canonical (omega (arith, is.shallow))

pub line_read : (m : Message) → IsProper m → length (canonical m ++ 10 ∷ []) ≤ longest_document → message_of (canonical m ++ 10 ∷ []) ≡ Ok m
unfolding message_of
line_read m p le =
    let short : nat_lt longest_document (length (canonical m ++ 10 ∷ [])) ≡ false = le-ltb _ _ le in
    rw (short, line_text m p) (message_back m p)
