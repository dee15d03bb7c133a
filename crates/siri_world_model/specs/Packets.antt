-- The packets of a world: each message that was ever sent, in order, with who sent it or whom it is for.
use Rattle.std.specs.Prelude.{ℕ, zero, suc, List, [], ◌∷◌, map, codes, Option, Some, None, slice_get}
use Rattle.siri_messages.specs.declared.message.Message.{Message}
use Rattle.siri_subscriptions.specs.declared.outs.Out.{Out}
use Rattle.siri_world_model.specs.Lines as line
use Rattle.siri_world_model.specs.Lines.{ToldLine}

-- the name of the producer
abbrev pub producer : List ℕ
producer = codes "producer"

-- one end of each packet is the producer, the other a consumer of this name
pub data SentPacket : Type 0 where
  ToProducer : (sender : List ℕ) → Message → SentPacket
  ToConsumer : (receiver : List ℕ) → Message → SentPacket

-- the packet of a number, which counts from 1
abbrev pub packet_at : ℕ → List SentPacket → Option SentPacket
packet_at zero packets = None
packet_at (suc before) packets = slice_get packets before

-- what a producer sends at a settle, as packets
abbrev pub packets_out : List Out → List SentPacket
packets_out outs = map (λ out. ToConsumer out.to out.message) outs

-- its reply to a consumer, if there is one
abbrev pub reply_to : (receiver : List ℕ) → Option Message → List SentPacket
reply_to receiver None = []
reply_to receiver (Some message) = ToConsumer receiver message ∷ []

-- what a consumer sends, as packets
abbrev pub packets_from : (sender : List ℕ) → List Message → List SentPacket
packets_from sender messages = map (ToProducer sender) messages

-- a packet is told with its number
abbrev pub packet_line : ℕ → SentPacket → ToldLine
packet_line number (ToProducer sender message) = line.Packet number producer message
packet_line number (ToConsumer receiver message) = line.Packet number receiver message

-- packets are told in order, the first under this number
abbrev pub packet_lines : ℕ → List SentPacket → List ToldLine
packet_lines number [] = []
packet_lines number (packet ∷ packets) = packet_line number packet ∷ packet_lines (suc number) packets
