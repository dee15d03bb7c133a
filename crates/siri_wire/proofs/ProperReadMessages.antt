-- A message that a document spells is proper, so that its canonical text is a document of it.
use Rattle.std.proofs.Common.{◌≡◌, ℕ, ◌≤◌, Bool, true, false, nat_lt, List, [], ◌∷◌, ◌++◌, length, Option, Some, None, Ok, refl}
use Rattle.std.specs.Prelude.{IfSome, IsSomeAnd, if◌then◌else◌}
use Rattle.serde_json.specs.Data.{Data, object}
use Rattle.siri_base.specs.declared.reason.Reason.TheVariants.{TooLong}
use Rattle.siri_json.specs.Tree.{tree_of, longest_document}
use Rattle.siri_json.specs.Values.{Found, found, absent, wrong, member_of, object_in}
use Rattle.siri_messages.specs.declared.message.Message.{Message}
use Rattle.siri_messages.specs.declared.message.Message.TheVariants as message
use Rattle.siri_messages.specs.Kinds.{kind_of}
use Rattle.siri_tables.specs.Refusals.{refused}
use Rattle.siri_tables.specs.Spelling.{IfFound}
use Rattle.siri_json.specs.TextsOfTrees.{TextsAreUtf8}
use Rattle.siri_tables.proofs.ProperParts.{OnFound, member_is, object_is}
use Rattle.siri_tables.proofs.TableLaws.{spelled_proper}
use Rattle.siri_deliveries.specs.declared.names.TheConstants.{SIRI}
use Rattle.siri_wire.specs.Canonical.{canonical}
use Rattle.siri_wire.specs.Documents.{root, message_in, message_of}
use Rattle.siri_wire.specs.laws.ProperMessages.{IsProper}
use Rattle.siri_wire.specs.laws.SpellingDocuments.{HasObject, SpellsBody, SpellsSiri, SpellsRoot}
use Rattle.siri_tables.proofs.TableLaws.{spelled_proper}
use Rattle.siri_wire.proofs.DeliveryTables.{service_delivery_laws}
use Rattle.siri_wire.proofs.SupplyTables.{ready_laws, ready_acknowledgement_laws, supply_laws, received_laws, check_laws}
use Rattle.siri_wire.proofs.SupplyTables.{check_response_laws, heartbeat_laws}
use Rattle.siri_wire.proofs.BackDocuments.{canonical_read, line_read}
use Rattle.siri_wire.proofs.SubscriptionTables.{subscription_request_proper, termination_laws}
use Rattle.siri_wire.proofs.RequestTables.{service_request_proper, subscription_response_laws, termination_response_laws}
use Rattle.siri_wire.proofs.ReadIffSpells.{root_spelled}
use Rattle.siri_json.proofs.TreeTexts.{tree_is_utf8}

body_proper : (d : Data) (m : Message) → TextsAreUtf8 d → SpellsBody d m → IsProper m
body_proper d (message.ServiceRequest m) u s_ = service_request_proper d m u s_
body_proper d (message.ServiceDelivery m) u s_ = spelled_proper service_delivery_laws d m u s_
body_proper d (message.SubscriptionRequest m) u s_ = subscription_request_proper d m u s_
body_proper d (message.SubscriptionResponse m) u s_ = spelled_proper subscription_response_laws d m u s_
body_proper d (message.TerminateSubscriptionRequest m) u s_ = spelled_proper termination_laws d m u s_
body_proper d (message.TerminateSubscriptionResponse m) u s_ = spelled_proper termination_response_laws d m u s_
body_proper d (message.DataReadyNotification m) u s_ = spelled_proper ready_laws d m u s_
body_proper d (message.DataReadyAcknowledgement m) u s_ = spelled_proper ready_acknowledgement_laws d m u s_
body_proper d (message.DataSupplyRequest m) u s_ = spelled_proper supply_laws d m u s_
body_proper d (message.DataReceivedAcknowledgement m) u s_ = spelled_proper received_laws d m u s_
body_proper d (message.CheckStatusRequest m) u s_ = spelled_proper check_laws d m u s_
body_proper d (message.CheckStatusResponse m) u s_ = spelled_proper check_response_laws d m u s_
body_proper d (message.HeartbeatNotification m) u s_ = spelled_proper heartbeat_laws d m u s_

-- ---- objects at a name

found_then : {Q : Type 0} (f : Found Data) (P : Data → Type 0) → OnFound f TextsAreUtf8 → IfFound f P → ((d : Data) → TextsAreUtf8 d → P d → Q) → Q
found_then (found d) P u is h = h d u is
found_then absent P u is h = absurd is
found_then wrong P u is h = absurd is

some_then : {Q : Type 0} (o : Option Data) (P : Data → Type 0) → IfSome o TextsAreUtf8
    → IsSomeAnd o (λ e. IfFound (object_in e) P) → ((d : Data) → TextsAreUtf8 d → P d → Q) → Q
some_then None P u is h = absurd is
some_then (Some d) P u is h = found_then (object_in d) P (object_is d u) is h

object_then : {Q : Type 0} (key : List ℕ) (d : Data) (P : Data → Type 0) → TextsAreUtf8 d → HasObject key d P → ((e : Data) → TextsAreUtf8 e → P e → Q) → Q
object_then key d P u is h = some_then (member_of key d) P (member_is key d u) is h

-- ---- documents

siri_proper : (d : Data) (m : Message) → TextsAreUtf8 d → SpellsSiri d m → IsProper m
siri_proper d m u s_ = object_then (kind_of m) d (λ o. SpellsBody o m) u s_.body (λ e v is. body_proper e m v is)

root_proper : (d : Data) (m : Message) → TextsAreUtf8 d → SpellsRoot d m → IsProper m
root_proper (object ms) m u s_ = object_then SIRI.now (object ms) (λ o. SpellsSiri o m) u s_ (λ e v is. siri_proper e m v is)
root_proper d m u s_ = absurd s_

-- what is read of a tree with UTF-8 texts is proper
pub message_proper : (d : Data) (m : Message) → TextsAreUtf8 d → root d ≡ Ok m → IsProper m
message_proper d m u e = root_proper d m u (root_spelled d m e)

tree_proper : (o : Option Data) (m : Message) → ((d : Data) → o ≡ Some d → TextsAreUtf8 d) → message_in o ≡ Ok m → IsProper m
tree_proper None m u e = absurd cc
tree_proper (Some d) m u e = message_proper d m (u d refl) e

document_by : (document : List ℕ) (m : Message) (long : Bool) → (if long then refused TooLong else message_in (tree_of document)) ≡ Ok m → IsProper m
document_by document m true e = absurd cc
document_by document m false e = tree_proper (tree_of document) m (tree_is_utf8 document) e

pub document_proper : (document : List ℕ) (m : Message) → message_of document ≡ Ok m → IsProper m
unfolding message_of
document_proper document m e = document_by document m (nat_lt longest_document (length document)) e

pub converted_read : (document : List ℕ) (m : Message) → message_of document ≡ Ok m → length (canonical m) ≤ longest_document → message_of (canonical m) ≡ Ok m
converted_read document m e le = canonical_read m (document_proper document m e) le

pub converted_line_read : (document : List ℕ) (m : Message) → message_of document ≡ Ok m
    → length (canonical m ++ 10 ∷ []) ≤ longest_document → message_of (canonical m ++ 10 ∷ []) ≡ Ok m
converted_line_read document m e le = line_read m (document_proper document m e) le
