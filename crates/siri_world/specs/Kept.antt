-- Inner words: cited by private functions alone. A packet as it is kept, as the packet that was sent.
use Rattle.std.specs.Prelude.{List, map}
use Rattle.siri_world_model.specs.Packets.{SentPacket, ToProducer, ToConsumer}
use Rattle.siri_world.specs.declared.packets.Packet.{Packet}
use Rattle.siri_world.specs.declared.packets.Packet.TheVariants as packet

abbrev pub sent_packet : Packet → SentPacket
sent_packet (packet.ToProducer sender message) = ToProducer sender message.value
sent_packet (packet.ToConsumer receiver message) = ToConsumer receiver message.value

abbrev pub sent_packets : List Packet → List SentPacket
sent_packets packets = map sent_packet packets
