use Rattle.siri_world_model.proofs.Telling.{views_tell}
use Rattle.siri_world_model.proofs.laws.told.quiet_views_are_direct.Goals as goal

pub returns : goal.returns
returns c = views_tell
