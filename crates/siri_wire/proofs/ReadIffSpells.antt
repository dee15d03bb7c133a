-- A document is read as a message exactly where it spells it.
use Rattle.std.proofs.Common.{◌≡◌, ℕ, Bool, true, false, nat_lt, List, length, Option, Some, None, Result, Ok, refl, sym, ap, ◌∙◌, subst}
use Rattle.std.specs.Prelude.{IsSomeAnd, if◌then◌else◌}
use Rattle.std.proofs.lemmas.Bool.{le-ltb, ltb-false}
use Rattle.serde_json.specs.Data.{Data, object}
use Rattle.siri_base.specs.declared.reason.Reason.TheVariants.{TooLong}
use Rattle.siri_json.specs.Tree.{tree_of, longest_document}
use Rattle.siri_json.specs.Values.{Found, found, absent, wrong, member_of, object_in}
use Rattle.siri_messages.specs.declared.message.Message.{Message}
use Rattle.siri_messages.specs.declared.message.Message.TheVariants as message
use Rattle.siri_messages.specs.Kinds.{kind_of}
use Rattle.siri_tables.specs.Refusals.{Refusal, ◌>>=◌, refused, each}
use Rattle.siri_tables.specs.Rules.{table, unless_wrong, maybe, required_row}
use Rattle.siri_tables.specs.Spelling.{IfFound}
use Rattle.siri_tables.specs.Tables.{AllSpelled}
use Rattle.siri_tables.proofs.RowSpells.{some, done, ok_is, required_row_ok, bind_ok, required_row_spelled, found_map}
use Rattle.siri_tables.proofs.TableLaws.{read_spelled, spelled_read}
use Rattle.siri_wire.specs.declared.kinds.Kind.{Kind}
use Rattle.siri_wire.specs.declared.kinds.Kind.TheVariants as kind
use Rattle.siri_deliveries.specs.declared.names.TheConstants.{SIRI, CHECK_STATUS_REQUEST, CHECK_STATUS_RESPONSE, DATA_READY_ACKNOWLEDGEMENT}
use Rattle.siri_deliveries.specs.declared.names.TheConstants.{DATA_READY_NOTIFICATION, DATA_RECEIVED_ACKNOWLEDGEMENT, DATA_SUPPLY_REQUEST}
use Rattle.siri_deliveries.specs.declared.names.TheConstants.{HEARTBEAT_NOTIFICATION, SERVICE_DELIVERY, SERVICE_REQUEST}
use Rattle.siri_deliveries.specs.declared.names.TheConstants.{SUBSCRIPTION_REQUEST, SUBSCRIPTION_RESPONSE, TERMINATE_SUBSCRIPTION_REQUEST}
use Rattle.siri_deliveries.specs.declared.names.TheConstants.{TERMINATE_SUBSCRIPTION_RESPONSE}
use Rattle.siri_deliveries.specs.Deliveries.{service_delivery_table, service_delivery}
use Rattle.siri_wire.specs.Documents.{message_at, message_or, only_held, siri, root, message_in, message_of}
use Rattle.siri_wire.specs.Requests.{service_request}
use Rattle.siri_wire.specs.laws.SpellingRequests.{SpellsServiceRequest, SpellsSubscriptionRequest, SpellsSubscriptionResponse}
use Rattle.siri_wire.specs.laws.SpellingRequests.{SpellsTerminationRequest, SpellsTerminationResponse}
use Rattle.siri_wire.specs.laws.SpellingDocuments.{HasObject, kind_in, SpellsBody, SpellsSiri, SpellsRoot, SpellsDocument}
use Rattle.siri_wire.specs.Statuses.{check_table, check_response_table, heartbeat_table, check_status_request, check_status_response, heartbeat_notification}
use Rattle.siri_wire.specs.Subscriptions.{subscription_request, subscription_response}
use Rattle.siri_wire.specs.Supplies.{ready_table, ready_acknowledgement_table, supply_table, received_table}
use Rattle.siri_wire.specs.Supplies.{data_ready_notification}
use Rattle.siri_wire.specs.Supplies.{data_ready_acknowledgement, data_supply_request, data_received_acknowledgement}
use Rattle.siri_wire.specs.Terminations.{termination_request, termination_response}
use Rattle.siri_tables.proofs.TableLaws.{read_spelled, spelled_read}
use Rattle.siri_wire.proofs.DeliveryTables.{service_delivery_laws}
use Rattle.siri_wire.proofs.SupplyTables.{ready_laws, ready_acknowledgement_laws, supply_laws, received_laws}
use Rattle.siri_wire.proofs.SupplyTables.{check_laws, check_response_laws, heartbeat_laws}
use Rattle.siri_wire.proofs.RequestTables.{service_request_spelled, service_request_read, subscription_response_laws, termination_response_laws}
use Rattle.siri_wire.proofs.SubscriptionTables.{subscription_request_spelled, subscription_request_read, termination_laws}

once_done : {A : Type 0} (x y : A) → done (some x) ≡ done (some y) → done x ≡ done y
once_done x y e = cc

-- ---- objects that are needed

found_spelled : {A : Type 0} (rows : Data → Result A Refusal) (f : Found Data) (x : A)
    → (unless_wrong f >>= each rows) ≡ Ok (Some x) → IfFound f (λ o. rows o ≡ Ok x)
found_spelled rows (found o) x e = let r = bind_ok (rows o) _ (Some x) e in r.1 ∙ once_done r.0 x r.2
found_spelled rows absent x e = absurd cc
found_spelled rows wrong x e = absurd cc

found_read : {A : Type 0} (rows : Data → Result A Refusal) (f : Found Data) (x : A) → IfFound f (λ o. rows o ≡ Ok x)
    → (unless_wrong f >>= each rows) ≡ Ok (Some x)
found_read rows (found o) x is = rw is refl
found_read rows absent x is = absurd is
found_read rows wrong x is = absurd is

table_spelled : {A : Type 0} (rows : Data → Result A Refusal) (o : Option Data) (x : A)
    → maybe (table rows) o ≡ Ok (Some x) → IsSomeAnd o (λ e. IfFound (object_in e) (λ d. rows d ≡ Ok x))
unfolding table
table_spelled rows None x e = absurd cc
table_spelled rows (Some d) x e = found_spelled rows (object_in d) x e

table_read : {A : Type 0} (rows : Data → Result A Refusal) (o : Option Data) (x : A)
    → IsSomeAnd o (λ e. IfFound (object_in e) (λ d. rows d ≡ Ok x)) → maybe (table rows) o ≡ Ok (Some x)
unfolding table
table_read rows None x is = absurd is
table_read rows (Some d) x is = found_read rows (object_in d) x is

member_map : (o : Option Data) (P Q : Data → Type 0) → ((d : Data) → P d → Q d)
    → IsSomeAnd o (λ e. IfFound (object_in e) P) → IsSomeAnd o (λ e. IfFound (object_in e) Q)
member_map None P Q h is = is
member_map (Some d) P Q h is = found_map (object_in d) P Q h is

-- what is needed at a name is an object that is read
pub required_row_is : {A : Type 0} (rows : Data → Result A Refusal) (P : Data → A → Type 0) (key : List ℕ) (d : Data)
    (x : A) → ((o : Data) → rows o ≡ Ok x → P o x) → required_row (table rows) key d ≡ Ok x
    → HasObject key d (λ o. P o x)
required_row_is rows P key d x h e = member_map (member_of key d) _ _ h (table_spelled rows (member_of key d) x (required_row_spelled (table rows) key d x e))

pub is_required : {A : Type 0} (rows : Data → Result A Refusal) (P : Data → A → Type 0) (key : List ℕ) (d : Data)
    (x : A) → ((o : Data) → P o x → rows o ≡ Ok x) → HasObject key d (λ o. P o x)
    → required_row (table rows) key d ≡ Ok x
is_required rows P key d x h is = required_row_ok (table rows) key d x (table_read rows (member_of key d) x (member_map (member_of key d) _ _ h is))

-- ---- the message of a kind

record SpellsAt (k : Kind) (d : Data) (m : Message) : Type 0 where
  of_kind : kind_in m ≡ k
  body : HasObject (kind_of m) d (λ o. SpellsBody o m)

-- what is read at the name of a kind is a message of that kind, and spelled there
kind_spelled : {A : Type 0} (rows : Data → Result A Refusal) (made : A → Message) (k : Kind) (key : List ℕ) (d : Data)
    (m : Message) → ((x : A) → kind_in (made x) ≡ k) → ((x : A) → kind_of (made x) ≡ key)
    → ((o : Data) (x : A) → rows o ≡ Ok x → SpellsBody o (made x)) → (required_row (table rows) key d >>= λ x. done (made x)) ≡ Ok m → SpellsAt k d m
kind_spelled rows made k key d m of_kind of_name h e =
    let r = bind_ok (required_row (table rows) key d) _ m e in
    let body : HasObject key d (λ o. SpellsBody o (made r.0)) = required_row_is rows (λ o x. SpellsBody o (made x)) key d r.0 (λ o is. h o r.0 is) r.1 in
    subst (λ (x : Message). SpellsAt k d x) (ok_is (made r.0) m r.2) (record { of_kind = of_kind r.0; body = rw (of_name r.0) body })

at_spelled : (k : Kind) (d : Data) (m : Message) → message_at k d ≡ Ok m → SpellsAt k d m
unfolding subscription_response termination_request termination_response service_delivery data_ready_notification
    data_ready_acknowledgement data_supply_request data_received_acknowledgement check_status_request
    check_status_response
    heartbeat_notification
at_spelled kind.ServiceRequest d m e = kind_spelled service_request (λ x. message.ServiceRequest x) _ _ d m (λ x. refl)
    (λ x. refl) (λ o x is. service_request_spelled o x is) e
at_spelled kind.ServiceDelivery d m e = kind_spelled service_delivery (λ x. message.ServiceDelivery x) _ _ d m
    (λ x. refl) (λ x. refl) (λ o x is. read_spelled service_delivery_laws o x is) e
at_spelled kind.SubscriptionRequest d m e = kind_spelled subscription_request
    (λ x. message.SubscriptionRequest x) _ _ d m (λ x. refl) (λ x. refl)
    (λ o x is. subscription_request_spelled o x is) e
at_spelled kind.SubscriptionResponse d m e = kind_spelled subscription_response
    (λ x. message.SubscriptionResponse x) _ _ d m (λ x. refl) (λ x. refl)
    (λ o x is. read_spelled subscription_response_laws o x is) e
at_spelled kind.TerminateSubscriptionRequest d m e = kind_spelled termination_request
    (λ x. message.TerminateSubscriptionRequest x) _ _ d m (λ x. refl) (λ x. refl)
    (λ o x is. read_spelled termination_laws o x is) e
at_spelled kind.TerminateSubscriptionResponse d m e =
    kind_spelled termination_response (λ x. message.TerminateSubscriptionResponse x) _ _ d m (λ x. refl) (λ x. refl)
    (λ o x is. read_spelled termination_response_laws o x is) e
at_spelled kind.DataReadyNotification d m e = kind_spelled data_ready_notification
    (λ x. message.DataReadyNotification x) _ _ d m (λ x. refl) (λ x. refl) (λ o x is. read_spelled ready_laws o x is) e
at_spelled kind.DataReadyAcknowledgement d m e = kind_spelled data_ready_acknowledgement
    (λ x. message.DataReadyAcknowledgement x) _ _ d m (λ x. refl) (λ x. refl)
    (λ o x is. read_spelled ready_acknowledgement_laws o x is) e
at_spelled kind.DataSupplyRequest d m e = kind_spelled data_supply_request (λ x. message.DataSupplyRequest x) _ _ d m
    (λ x. refl) (λ x. refl) (λ o x is. read_spelled supply_laws o x is) e
at_spelled kind.DataReceivedAcknowledgement d m e = kind_spelled data_received_acknowledgement
    (λ x. message.DataReceivedAcknowledgement x) _ _ d m (λ x. refl) (λ x. refl)
    (λ o x is. read_spelled received_laws o x is) e
at_spelled kind.CheckStatusRequest d m e = kind_spelled check_status_request (λ x. message.CheckStatusRequest x) _ _ d m
    (λ x. refl) (λ x. refl) (λ o x is. read_spelled check_laws o x is) e
at_spelled kind.CheckStatusResponse d m e = kind_spelled check_status_response
    (λ x. message.CheckStatusResponse x) _ _ d m (λ x. refl) (λ x. refl)
    (λ o x is. read_spelled check_response_laws o x is) e
at_spelled kind.HeartbeatNotification d m e = kind_spelled heartbeat_notification
    (λ x. message.HeartbeatNotification x) _ _ d m (λ x. refl) (λ x. refl)
    (λ o x is. read_spelled heartbeat_laws o x is) e

at_read : (d : Data) (m : Message) → HasObject (kind_of m) d (λ o. SpellsBody o m) → message_at (kind_in m) d ≡ Ok m
unfolding subscription_response termination_request termination_response service_delivery data_ready_notification
    data_ready_acknowledgement data_supply_request data_received_acknowledgement check_status_request
    check_status_response
    heartbeat_notification
at_read d (message.ServiceRequest m) is =
    rw (is_required service_request (λ o x. SpellsServiceRequest o x) SERVICE_REQUEST.now d m
    (λ o s_. service_request_read o m s_) is) refl
at_read d (message.ServiceDelivery m) is =
    rw (is_required service_delivery (λ o x. AllSpelled service_delivery_table o x) SERVICE_DELIVERY.now d m
    (λ o s_. spelled_read service_delivery_laws o m s_) is) refl
at_read d (message.SubscriptionRequest m) is =
    rw (is_required subscription_request (λ o x. SpellsSubscriptionRequest o x) SUBSCRIPTION_REQUEST.now d m
    (λ o s_. subscription_request_read o m s_) is) refl
at_read d (message.SubscriptionResponse m) is =
    rw (is_required subscription_response (λ o x. SpellsSubscriptionResponse o x) SUBSCRIPTION_RESPONSE.now d m
    (λ o s_. spelled_read subscription_response_laws o m s_) is) refl
at_read d (message.TerminateSubscriptionRequest m) is =
    rw (is_required termination_request (λ o x. SpellsTerminationRequest o x) TERMINATE_SUBSCRIPTION_REQUEST.now d m
    (λ o s_. spelled_read termination_laws o m s_) is) refl
at_read d (message.TerminateSubscriptionResponse m) is =
    rw (is_required termination_response (λ o x. SpellsTerminationResponse o x) TERMINATE_SUBSCRIPTION_RESPONSE.now d m
    (λ o s_. spelled_read termination_response_laws o m s_) is) refl
at_read d (message.DataReadyNotification m) is =
    rw (is_required data_ready_notification (λ o x. AllSpelled ready_table o x) DATA_READY_NOTIFICATION.now d m
    (λ o s_. spelled_read ready_laws o m s_) is) refl
at_read d (message.DataReadyAcknowledgement m) is =
    rw (is_required data_ready_acknowledgement (λ o x. AllSpelled ready_acknowledgement_table o x)
    DATA_READY_ACKNOWLEDGEMENT.now d m (λ o s_. spelled_read ready_acknowledgement_laws o m s_) is) refl
at_read d (message.DataSupplyRequest m) is =
    rw (is_required data_supply_request (λ o x. AllSpelled supply_table o x) DATA_SUPPLY_REQUEST.now d m
    (λ o s_. spelled_read supply_laws o m s_) is) refl
at_read d (message.DataReceivedAcknowledgement m) is =
    rw (is_required data_received_acknowledgement (λ o x. AllSpelled received_table o x)
    DATA_RECEIVED_ACKNOWLEDGEMENT.now d m (λ o s_. spelled_read received_laws o m s_) is) refl
at_read d (message.CheckStatusRequest m) is =
    rw (is_required check_status_request (λ o x. AllSpelled check_table o x) CHECK_STATUS_REQUEST.now d m
    (λ o s_. spelled_read check_laws o m s_) is) refl
at_read d (message.CheckStatusResponse m) is =
    rw (is_required check_status_response (λ o x. AllSpelled check_response_table o x) CHECK_STATUS_RESPONSE.now d m
    (λ o s_. spelled_read check_response_laws o m s_) is) refl
at_read d (message.HeartbeatNotification m) is =
    rw (is_required heartbeat_notification (λ o x. AllSpelled heartbeat_table o x) HEARTBEAT_NOTIFICATION.now d m
    (λ o s_. spelled_read heartbeat_laws o m s_) is) refl

-- ---- documents

siri_cases : (d : Data) (m : Message) (k : Option Kind) → only_held d ≡ k → message_or d k ≡ Ok m → SpellsSiri d m
siri_cases d m None is e = absurd cc
siri_cases d m (Some k) is e =
    let at_kind = at_spelled k d m e in
    record { only = is ∙ ap (λ (x : Kind). some x) (sym at_kind.of_kind); body = at_kind.body }

siri_spelled : (d : Data) (m : Message) → siri d ≡ Ok m → SpellsSiri d m
unfolding siri
siri_spelled d m e = siri_cases d m (only_held d) refl e

siri_read : (d : Data) (m : Message) → SpellsSiri d m → siri d ≡ Ok m
unfolding siri
siri_read d m s_ = rw (s_.only) (at_read d m s_.body)

pub root_spelled : (d : Data) (m : Message) → root d ≡ Ok m → SpellsRoot d m
unfolding root
root_spelled (object ms) m e = required_row_is siri (λ o x. SpellsSiri o x) SIRI.now (object ms) m (λ o is. siri_spelled o m is) e
root_spelled d m e = absurd cc

root_read : (d : Data) (m : Message) → SpellsRoot d m → root d ≡ Ok m
unfolding root
root_read (object ms) m s_ = is_required siri (λ o x. SpellsSiri o x) SIRI.now (object ms) m (λ o is. siri_read o m is) s_
root_read d m s_ = absurd s_

tree_spelled : (o : Option Data) (m : Message) → message_in o ≡ Ok m → IsSomeAnd o (λ d. SpellsRoot d m)
tree_spelled None m e = absurd cc
tree_spelled (Some d) m e = root_spelled d m e

tree_read : (o : Option Data) (m : Message) → IsSomeAnd o (λ d. SpellsRoot d m) → message_in o ≡ Ok m
tree_read None m s_ = absurd s_
tree_read (Some d) m s_ = root_read d m s_

document_cases : (document : List ℕ) (m : Message) (b : Bool) → nat_lt longest_document (length document) ≡ b
    → (if b then refused TooLong else message_in (tree_of document)) ≡ Ok m → SpellsDocument document m
document_cases document m true is e = absurd cc
document_cases document m false is e = record { bound = ltb-false _ _ is; tree = tree_spelled (tree_of document) m e }

pub document_spelled : (document : List ℕ) (m : Message) → message_of document ≡ Ok m → SpellsDocument document m
unfolding message_of
document_spelled document m e = document_cases document m (nat_lt longest_document (length document)) refl e

pub document_read : (document : List ℕ) (m : Message) → SpellsDocument document m → message_of document ≡ Ok m
unfolding message_of
document_read document m s_ =
    let short : nat_lt longest_document (length document) ≡ false = le-ltb _ _ s_.bound in
    rw short (tree_read (tree_of document) m s_.tree)
