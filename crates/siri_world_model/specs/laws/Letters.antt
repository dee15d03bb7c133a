-- The packets of a world as letters of a network: what each is about (EN 15531-2, subscriptions and deliveries).
use Rattle.std.specs.Prelude.{ℕ, List, [], ◌∷◌, map, Bool, true, false, Option, Some, unwrap_or}
use Rattle.siri_messages.specs.Asked.{AskedFor, asked_in}
use Rattle.siri_messages.specs.declared.message.Message.{Message}
use Rattle.siri_messages.specs.declared.message.Message.TheVariants as message
use Rattle.siri_messages.specs.declared.supplies.Mark.{Mark}
use Rattle.siri_change.specs.Parts.{Carried}
use Rattle.siri_life.specs.Life.{Subscribe, Terminate, Acknowledge, Notify, Delivery}
use Rattle.siri_life.specs.Named.{Name, Of}
use Rattle.siri_life.specs.Serving.{About, Carries, ToProducer, ToConsumer}
use Rattle.siri_model.specs.Lives.{mark_of, supply_of}
use Rattle.siri_view.specs.Hearing.{Heard, Delivered, Notified, Noted, Foreign, heard}
use Rattle.siri_world_model.specs.Packets.{SentPacket}
use Rattle.siri_world_model.specs.Packets as packet

-- a letter is of one subscription, or of none
abbrev pub Letter : Type 0
Letter = Of (About Carried AskedFor)

-- of one subscription of a consumer
abbrev pub of_one : (consumer identifier : Name) → About Carried AskedFor → Letter
of_one consumer identifier it = record { subscriber = consumer; identifier = identifier; it = it }

-- of none
abbrev pub of_none : (consumer : Name) → About Carried AskedFor → Letter
of_none consumer it = of_one consumer [] it

-- ---- to the producer

-- a request for one subscription under a number
abbrev pub asking : (sender : Name) → (number : ℕ) → List AskedFor → Letter
asking sender number (asked ∷ []) = of_one sender asked.subscription.identifier (Carries (Subscribe number asked))
asking sender number other = of_none sender (ToProducer true)

-- a request to end one subscription under a number
abbrev pub ending : (sender : Name) → (number : ℕ) → List Name → Letter
ending sender number (identifier ∷ []) = of_one sender identifier (Carries (Terminate number))
ending sender number other = of_none sender (ToProducer true)

-- the acknowledgement of a part
abbrev pub acknowledging : (sender : Name) → (status : Bool) → Option Mark → Letter
acknowledging sender true (Some mark) = of_one sender mark.subscription (Carries (Acknowledge (mark_of mark)))
acknowledging sender status mark = of_none sender (ToProducer false)

-- what a message to the producer is about; each other one is answered or isn't
unfoldable pub letter_to_producer : (sender : Name) → Message → Letter
letter_to_producer sender (message.SubscriptionRequest r) = asking sender r.message_identifier (asked_in r)
letter_to_producer sender (message.TerminateSubscriptionRequest r) = ending sender r.message_identifier r.subscription_ref
letter_to_producer sender (message.DataSupplyRequest r) = of_one sender r.extensions.subscription
    (Carries (supply_of r.all_data r.extensions))
letter_to_producer sender (message.DataReceivedAcknowledgement a) = acknowledging sender a.status a.extensions
letter_to_producer sender (message.CheckStatusRequest r) = of_none sender (ToProducer true)
letter_to_producer sender other = of_none sender (ToProducer false)

-- ---- to a consumer

-- the moment at which a round opened, which its messages carry
unfoldable pub moment_in : Message → ℕ
moment_in (message.ServiceDelivery d) = unwrap_or d.response_timestamp 0
moment_in (message.DataReadyNotification n) = unwrap_or n.request_timestamp 0
moment_in other = 0

-- by what a message says to a consumer
abbrev pub letter_heard : (receiver : Name) → (moment : ℕ) → Heard → Letter
letter_heard receiver moment (Delivered subscriber identifier mark more carried) = of_one receiver identifier (Carries (Delivery mark moment more carried))
letter_heard receiver moment (Notified identifier mark) = of_one receiver identifier (Carries (Notify mark moment))
letter_heard receiver moment Noted = of_none receiver ToConsumer
letter_heard receiver moment Foreign = of_none receiver ToConsumer

-- what a message to a consumer is about
abbrev pub letter_to_consumer : (receiver : Name) → Message → Letter
letter_to_consumer receiver message = letter_heard receiver (moment_in message) (heard message)

-- ---- packets

-- what a packet is about
abbrev pub letter_of : SentPacket → Letter
letter_of (packet.ToProducer sender message) = letter_to_producer sender message
letter_of (packet.ToConsumer receiver message) = letter_to_consumer receiver message

-- all of them, in the order sent
abbrev pub letters_of : List SentPacket → List Letter
letters_of packets = map letter_of packets
