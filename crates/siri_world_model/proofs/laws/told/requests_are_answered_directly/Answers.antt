use Rattle.siri_world_model.proofs.Telling.{requests_answered}
use Rattle.siri_world_model.proofs.laws.told.requests_are_answered_directly.Goals as goal

pub returns : goal.returns
returns c = requests_answered
