use Rattle.siri_world_model.proofs.Again.{other_packets}
use Rattle.siri_world_model.proofs.laws.packets.other_packets_change_nothing.Goals as goal

pub returns : goal.returns
returns c = other_packets
