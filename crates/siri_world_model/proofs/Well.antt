-- What holds of every world beside its network: what its ends make, and what they keep.
use Rattle.std.specs.Prelude.{◌≡◌, ℕ, suc, ◌<◌, List, [], ◌∷◌, true, Some}
use Rattle.std.specs.List.{All}
use Rattle.siri_messages.specs.Asked.{AskedFor, asked_in}
use Rattle.siri_messages.specs.declared.message.Message.{Message}
use Rattle.siri_messages.specs.declared.message.Message.TheVariants as message
use Rattle.siri_messages.specs.declared.supplies.Mark.{Mark}
use Rattle.siri_life.specs.Named.{Name, Of}
use Rattle.siri_model.specs.History.{History}
use Rattle.siri_model.specs.Lives.{Living, serving_of}
pub use Rattle.siri_view.specs.Changing.{IsOrdered}
use Rattle.siri_view.specs.Hearing.{Heard, Delivered, heard}
use Rattle.siri_world_model.specs.Packets.{SentPacket}
use Rattle.siri_world_model.specs.Packets as packet
use Rattle.siri_world_model.specs.World.{World, latest}

-- ---- what the ends of a world make

-- a message that a consumer makes: a request for one subscription whose subscriber it is, or to end one; a request for a
-- part or for all of one, an acknowledgement, a question; all under its name, and with numbers of at most 18 digits
unfoldable pub IsOfConsumer : (sender : Name) → Message → Type 0
IsOfConsumer sender (message.SubscriptionRequest r) =
    (asked : AskedFor) × (asked_in r ≡ asked ∷ []) × (asked.subscription.subscriber ≡ sender) × (r.message_identifier < 1000000000000000000)
IsOfConsumer sender (message.TerminateSubscriptionRequest r) = (r.subscriber_ref ≡ sender) × ((identifier : Name) × (r.subscription_ref ≡ identifier ∷ []))
IsOfConsumer sender (message.DataSupplyRequest r) =
    (r.consumer_ref ≡ sender) × (r.all_data ≡ true → r.extensions.number < 1000000000000000000)
IsOfConsumer sender (message.DataReceivedAcknowledgement a) =
    (a.status ≡ true) × (a.consumer_ref ≡ Some sender) × ((mark : Mark) × (a.extensions ≡ Some mark))
IsOfConsumer sender (message.DataReadyAcknowledgement a) = Unit {0}
IsOfConsumer sender (message.CheckStatusRequest r) = Unit {0}
IsOfConsumer sender other = ⊥

-- a part that is delivered is its receiver's
abbrev pub IsFor : (receiver : Name) → Heard → Type 0
IsFor receiver (Delivered subscriber identifier mark more carried) = subscriber ≡ receiver
IsFor receiver other = Unit {0}

-- a packet is one that an end of a world makes
abbrev pub IsMade : SentPacket → Type 0
IsMade (packet.ToProducer sender message) = IsOfConsumer sender message
IsMade (packet.ToConsumer receiver message) = IsFor receiver (heard message)

-- ---- what holds of every world

-- each start has its number, from this one on
abbrev pub AreNumbered : ℕ → List History → Type 0
AreNumbered number [] = Unit {0}
AreNumbered number (history ∷ more) = ((serving_of history).start ≡ number) × AreNumbered (suc number) more

-- the number of a life has at most 18 digits
abbrev pub IsShort : Of Living → Type 0
IsShort held = held.it.number < 1000000000000000000

-- what is kept of a world's ends beside what a network has
pub record IsWell (world : World) : Type 0 where
  pub numbered : AreNumbered 1 world.starts
  pub short : All IsShort (serving_of (latest world)).table
  pub made : All IsMade world.packets
  pub ordered : All IsOrdered world.consumers
