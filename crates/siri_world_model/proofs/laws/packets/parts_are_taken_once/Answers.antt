use Rattle.siri_world_model.proofs.Parts.{once_said}
use Rattle.siri_world_model.proofs.laws.packets.parts_are_taken_once.Goals as goal

pub returns : goal.returns
returns c = once_said
