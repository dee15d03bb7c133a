use Rattle.siri_world_model.proofs.Views.{views_meet}
use Rattle.siri_world_model.proofs.laws.views.quiet_views_meet.Goals as goal

pub returns : goal.returns
returns c = views_meet
