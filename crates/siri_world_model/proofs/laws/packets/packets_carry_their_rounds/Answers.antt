use Rattle.siri_world_model.proofs.Parts.{carries_said}
use Rattle.siri_world_model.proofs.laws.packets.packets_carry_their_rounds.Goals as goal

pub returns : goal.returns
returns c = carries_said
