use Rattle.siri_world_model.proofs.Parts.{gap_said}
use Rattle.siri_world_model.proofs.laws.packets.no_gap_is_shown.Goals as goal

pub returns : goal.returns
returns c = gap_said
