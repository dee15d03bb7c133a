-- The relation of documents and messages: a document of at most 8,388,608 bytes is the text of an object, whose member Siri is an
-- object with exactly one message in it, under that message's name, and the message's own object spells it.
use Rattle.std.specs.Prelude.{◌≡◌, ℕ, ◌≤◌, List, length, Some, IsSomeAnd}
use Rattle.serde_json.specs.Data.{Data, object}
use Rattle.siri_json.specs.Tree.{tree_of, longest_document}
use Rattle.siri_json.specs.Values.{member_of, object_in}
use Rattle.siri_messages.specs.declared.message.Message.{Message}
use Rattle.siri_messages.specs.declared.message.Message.TheVariants as message
use Rattle.siri_messages.specs.Kinds.{kind_of}
use Rattle.siri_tables.specs.Spelling.{IfFound}
use Rattle.siri_tables.specs.Tables.{AllSpelled}
use Rattle.siri_wire.specs.declared.kinds.Kind.{Kind}
use Rattle.siri_wire.specs.declared.kinds.Kind.TheVariants as kind
use Rattle.siri_deliveries.specs.declared.names.TheConstants.{SIRI}
use Rattle.siri_wire.specs.Documents.{only_held}
use Rattle.siri_deliveries.specs.Deliveries.{service_delivery_table}
use Rattle.siri_wire.specs.Supplies.{ready_table, ready_acknowledgement_table, supply_table, received_table}
use Rattle.siri_wire.specs.Statuses.{check_table, check_response_table, heartbeat_table}
use Rattle.siri_wire.specs.laws.SpellingRequests.{SpellsServiceRequest, SpellsSubscriptionRequest, SpellsSubscriptionResponse}
use Rattle.siri_wire.specs.laws.SpellingRequests.{SpellsTerminationRequest, SpellsTerminationResponse}

-- the member of that name is an object of which P holds, or a list whose first entry is
abbrev pub HasObject : List ℕ → Data → (Data → Type 0) → Type 0
HasObject key d P = IsSomeAnd (member_of key d) (λ e. IfFound (object_in e) P)

-- the kind of a message
abbrev pub kind_in : Message → Kind
kind_in (message.ServiceRequest m) = kind.ServiceRequest
kind_in (message.ServiceDelivery m) = kind.ServiceDelivery
kind_in (message.SubscriptionRequest m) = kind.SubscriptionRequest
kind_in (message.SubscriptionResponse m) = kind.SubscriptionResponse
kind_in (message.TerminateSubscriptionRequest m) = kind.TerminateSubscriptionRequest
kind_in (message.TerminateSubscriptionResponse m) = kind.TerminateSubscriptionResponse
kind_in (message.DataReadyNotification m) = kind.DataReadyNotification
kind_in (message.DataReadyAcknowledgement m) = kind.DataReadyAcknowledgement
kind_in (message.DataSupplyRequest m) = kind.DataSupplyRequest
kind_in (message.DataReceivedAcknowledgement m) = kind.DataReceivedAcknowledgement
kind_in (message.CheckStatusRequest m) = kind.CheckStatusRequest
kind_in (message.CheckStatusResponse m) = kind.CheckStatusResponse
kind_in (message.HeartbeatNotification m) = kind.HeartbeatNotification

-- a message's own object
abbrev pub SpellsBody : Data → Message → Type 0
SpellsBody d (message.ServiceRequest m) = SpellsServiceRequest d m
SpellsBody d (message.ServiceDelivery m) = AllSpelled service_delivery_table d m
SpellsBody d (message.SubscriptionRequest m) = SpellsSubscriptionRequest d m
SpellsBody d (message.SubscriptionResponse m) = SpellsSubscriptionResponse d m
SpellsBody d (message.TerminateSubscriptionRequest m) = SpellsTerminationRequest d m
SpellsBody d (message.TerminateSubscriptionResponse m) = SpellsTerminationResponse d m
SpellsBody d (message.DataReadyNotification m) = AllSpelled ready_table d m
SpellsBody d (message.DataReadyAcknowledgement m) = AllSpelled ready_acknowledgement_table d m
SpellsBody d (message.DataSupplyRequest m) = AllSpelled supply_table d m
SpellsBody d (message.DataReceivedAcknowledgement m) = AllSpelled received_table d m
SpellsBody d (message.CheckStatusRequest m) = AllSpelled check_table d m
SpellsBody d (message.CheckStatusResponse m) = AllSpelled check_response_table d m
SpellsBody d (message.HeartbeatNotification m) = AllSpelled heartbeat_table d m

-- Siri, which has the message and no other
pub record SpellsSiri (d : Data) (m : Message) : Type 0 where
  pub only : only_held d ≡ Some (kind_in m)
  pub body : HasObject (kind_of m) d (λ o. SpellsBody o m)

-- the document's tree is an object, and no list around one
abbrev pub SpellsRoot : Data → Message → Type 0
SpellsRoot (object ms) m = HasObject SIRI.now (object ms) (λ o. SpellsSiri o m)
SpellsRoot other m = ⊥

pub record SpellsDocument (document : List ℕ) (m : Message) : Type 0 where
  pub bound : length document ≤ longest_document
  pub tree : IsSomeAnd (tree_of document) (λ d. SpellsRoot d m)
