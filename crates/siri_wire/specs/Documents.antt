-- The message that a document is read as, or the first refusal: the document's length and tree, its one member Siri with exactly
-- one of the messages in it, and then that message's table (EN 15531-2).
use Rattle.std.specs.Prelude.{◌≡◌, ℕ, List, [], ◌∷◌, ◌++◌, codes, length, filter, nat_lt, Bool, true, false, if◌then◌else◌, Option, Some, None, Result, Ok, Err}
use Rattle.serde_json.specs.Data.{Data, object}
use Rattle.siri_base.specs.declared.reason.Reason.TheVariants.{TooLong, NotJson, WrongKind, UnknownMessage}
use Rattle.siri_base.specs.Words.{reason_name}
use Rattle.siri_json.specs.Paths.{path_text}
use Rattle.siri_json.specs.Tree.{tree_of, longest_document}
use Rattle.siri_json.specs.Values.{Found, found, absent, wrong, member_of, object_in}
use Rattle.siri_messages.specs.declared.message.Message.{Message}
use Rattle.siri_messages.specs.declared.message.Message.TheVariants as message
use Rattle.siri_tables.specs.Refusals.{Refusal, ◌>>=◌, refused}
use Rattle.siri_tables.specs.Rules.{table, required_row}
use Rattle.siri_tables.specs.declared.refusal.TableError.{TableError}
use Rattle.siri_tables.specs.declared.refusal.TableError.TheVariants as items
use Rattle.siri_wire.specs.Requests.{service_request}
use Rattle.siri_deliveries.specs.Deliveries.{service_delivery}
use Rattle.siri_wire.specs.Subscriptions.{subscription_request, subscription_response}
use Rattle.siri_wire.specs.Terminations.{termination_request, termination_response}
use Rattle.siri_wire.specs.Supplies.{data_ready_notification, data_ready_acknowledgement, data_supply_request, data_received_acknowledgement}
use Rattle.siri_wire.specs.Statuses.{check_status_request, check_status_response, heartbeat_notification}
use Rattle.siri_wire.specs.declared.kinds.Kind.{Kind}
use Rattle.siri_wire.specs.declared.kinds.Kind.TheVariants as kind
use Rattle.siri_wire.specs.declared.document.DecodeError.{DecodeError}
use Rattle.siri_wire.specs.declared.document.DecodeError.TheVariants as errors
use Rattle.siri_deliveries.specs.declared.names.TheConstants.{SIRI, SERVICE_REQUEST, SERVICE_DELIVERY, SUBSCRIPTION_REQUEST}
use Rattle.siri_deliveries.specs.declared.names.TheConstants.{SUBSCRIPTION_RESPONSE, TERMINATE_SUBSCRIPTION_REQUEST}
use Rattle.siri_deliveries.specs.declared.names.TheConstants.{TERMINATE_SUBSCRIPTION_RESPONSE, DATA_READY_NOTIFICATION}
use Rattle.siri_deliveries.specs.declared.names.TheConstants.{DATA_READY_ACKNOWLEDGEMENT, DATA_SUPPLY_REQUEST}
use Rattle.siri_deliveries.specs.declared.names.TheConstants.{DATA_RECEIVED_ACKNOWLEDGEMENT, CHECK_STATUS_REQUEST, CHECK_STATUS_RESPONSE}
use Rattle.siri_deliveries.specs.declared.names.TheConstants.{HEARTBEAT_NOTIFICATION}

-- the messages
abbrev pub kinds : List Kind
kinds =
    kind.ServiceRequest ∷
    kind.ServiceDelivery ∷
    kind.SubscriptionRequest ∷
    kind.SubscriptionResponse ∷
    kind.TerminateSubscriptionRequest ∷
    kind.TerminateSubscriptionResponse ∷
    kind.DataReadyNotification ∷
    kind.DataReadyAcknowledgement ∷
    kind.DataSupplyRequest ∷
    kind.DataReceivedAcknowledgement ∷
    kind.CheckStatusRequest ∷
    kind.CheckStatusResponse ∷
    kind.HeartbeatNotification ∷ []

-- the name under which a document holds a message
abbrev pub name_of : Kind → List ℕ
name_of kind.ServiceRequest = SERVICE_REQUEST.now
name_of kind.ServiceDelivery = SERVICE_DELIVERY.now
name_of kind.SubscriptionRequest = SUBSCRIPTION_REQUEST.now
name_of kind.SubscriptionResponse = SUBSCRIPTION_RESPONSE.now
name_of kind.TerminateSubscriptionRequest = TERMINATE_SUBSCRIPTION_REQUEST.now
name_of kind.TerminateSubscriptionResponse = TERMINATE_SUBSCRIPTION_RESPONSE.now
name_of kind.DataReadyNotification = DATA_READY_NOTIFICATION.now
name_of kind.DataReadyAcknowledgement = DATA_READY_ACKNOWLEDGEMENT.now
name_of kind.DataSupplyRequest = DATA_SUPPLY_REQUEST.now
name_of kind.DataReceivedAcknowledgement = DATA_RECEIVED_ACKNOWLEDGEMENT.now
name_of kind.CheckStatusRequest = CHECK_STATUS_REQUEST.now
name_of kind.CheckStatusResponse = CHECK_STATUS_RESPONSE.now
name_of kind.HeartbeatNotification = HEARTBEAT_NOTIFICATION.now

-- the message of a kind, by its table
abbrev pub message_at : Kind → Data → Result Message Refusal
message_at kind.ServiceRequest d = required_row (table service_request) SERVICE_REQUEST.now d >>= λ m. Ok (message.ServiceRequest m)
message_at kind.ServiceDelivery d = required_row (table service_delivery) SERVICE_DELIVERY.now d >>= λ m. Ok (message.ServiceDelivery m)
message_at kind.SubscriptionRequest d = required_row (table subscription_request) SUBSCRIPTION_REQUEST.now d >>= λ m. Ok (message.SubscriptionRequest m)
message_at kind.SubscriptionResponse d = required_row (table subscription_response) SUBSCRIPTION_RESPONSE.now d >>= λ m. Ok (message.SubscriptionResponse m)
message_at kind.TerminateSubscriptionRequest d = required_row
    (table termination_request) TERMINATE_SUBSCRIPTION_REQUEST.now d >>= λ m.
    Ok (message.TerminateSubscriptionRequest m)
message_at kind.TerminateSubscriptionResponse d = required_row
    (table termination_response) TERMINATE_SUBSCRIPTION_RESPONSE.now d >>= λ m.
    Ok (message.TerminateSubscriptionResponse m)
message_at kind.DataReadyNotification d = required_row
    (table data_ready_notification) DATA_READY_NOTIFICATION.now d >>= λ m. Ok (message.DataReadyNotification m)
message_at kind.DataReadyAcknowledgement d = required_row
    (table data_ready_acknowledgement) DATA_READY_ACKNOWLEDGEMENT.now d >>= λ m. Ok (message.DataReadyAcknowledgement m)
message_at kind.DataSupplyRequest d = required_row (table data_supply_request) DATA_SUPPLY_REQUEST.now d >>= λ m. Ok (message.DataSupplyRequest m)
message_at kind.DataReceivedAcknowledgement d = required_row
    (table data_received_acknowledgement) DATA_RECEIVED_ACKNOWLEDGEMENT.now d >>= λ m.
    Ok (message.DataReceivedAcknowledgement m)
message_at kind.CheckStatusRequest d = required_row (table check_status_request) CHECK_STATUS_REQUEST.now d >>= λ m. Ok (message.CheckStatusRequest m)
message_at kind.CheckStatusResponse d = required_row (table check_status_response) CHECK_STATUS_RESPONSE.now d >>= λ m. Ok (message.CheckStatusResponse m)
message_at kind.HeartbeatNotification d = required_row (table heartbeat_notification) HEARTBEAT_NOTIFICATION.now d >>= λ m. Ok (message.HeartbeatNotification m)

-- ---- which message a document holds

abbrev pub is_there : Found Data → Bool
is_there (found o) = true
is_there absent = false
is_there wrong = true

abbrev pub is_member_there : Option Data → Bool
is_member_there None = false
is_member_there (Some d) = is_there (object_in d)

-- there is a member of that name that isn't absent where an object is wanted
unfoldable pub holds : List ℕ → Data → Bool
holds key d = is_member_there (member_of key d)

-- the kinds of the messages that an object holds
abbrev pub held : Data → List Kind → List Kind
held d among = filter (λ k. holds (name_of k) d) among

abbrev pub only : List Kind → Option Kind
only [] = None
only (k ∷ []) = Some k
only (k ∷ l ∷ ks) = None

-- the kind of the only message that an object holds
unfoldable pub only_held : Data → Option Kind
only_held d = only (held d kinds)

abbrev pub message_or : Data → Option Kind → Result Message Refusal
message_or d None = refused UnknownMessage
message_or d (Some k) = message_at k d

-- Siri: exactly one message
unfoldable pub siri : Data → Result Message Refusal
siri d = message_or d (only_held d)

-- ---- documents

-- the document is an object, and no list around one
unfoldable pub root : Data → Result Message Refusal
root (object ms) = required_row (table siri) SIRI.now (object ms)
root other = refused WrongKind

abbrev pub message_in : Option Data → Result Message Refusal
message_in None = refused NotJson
message_in (Some d) = root d

-- the message that a document of at most 8,388,608 bytes is read as, or the first refusal
unfoldable pub message_of : List ℕ → Result Message Refusal
message_of document = if nat_lt longest_document (length document) then refused TooLong else message_in (tree_of document)

-- ---- what a call gives

-- the same refusal, or no memory
abbrev pub decode_error : TableError → DecodeError
decode_error items.OutOfMemory = errors.OutOfMemory
decode_error (items.Refused path reason) = errors.Refused (record { path = path; reason = reason })

abbrev pub IsRefused : DecodeError → Result Message Refusal → Type 0
IsRefused errors.OutOfMemory read = Unit {0}
IsRefused (errors.Refused r) read = read ≡ Err (record { path = r.path; reason = r.reason })

-- what decoding returned is what a document is read as, or how it is refused, unless there was no memory
abbrev pub Decodes : Result Message DecodeError → Result Message Refusal → Type 0
Decodes (Ok m) read = read ≡ Ok m
Decodes (Err e) read = IsRefused e read

-- `PATH: REASON`, as a refusal is told
abbrev pub refusal_text : Refusal → List ℕ
refusal_text refusal = path_text refusal.path ++ (codes ": " ++ reason_name refusal.reason)
