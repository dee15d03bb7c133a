use Rattle.siri_world_model.proofs.Views.{view_is_goal}
use Rattle.siri_world_model.proofs.laws.views.views_are_goals.Goals as goal

pub returns : goal.returns
returns c = view_is_goal
