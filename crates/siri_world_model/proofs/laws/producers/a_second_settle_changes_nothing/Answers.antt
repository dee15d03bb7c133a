use Rattle.siri_world_model.proofs.Once.{second_settle}
use Rattle.siri_world_model.proofs.laws.producers.a_second_settle_changes_nothing.Goals as goal

pub returns : goal.returns
returns c = second_settle
