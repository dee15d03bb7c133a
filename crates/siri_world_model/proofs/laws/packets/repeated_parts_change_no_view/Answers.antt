use Rattle.siri_world_model.proofs.Again.{again_kept, again_told}
use Rattle.siri_world_model.proofs.laws.packets.repeated_parts_change_no_view.Goals as goal

pub returns-clause-consumers : goal.returns-clause-consumers
returns-clause-consumers c = again_kept

pub returns-clause-views : goal.returns-clause-views
returns-clause-views c = again_told
