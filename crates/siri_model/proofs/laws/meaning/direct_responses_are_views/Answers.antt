use Rattle.siri_model.proofs.Lawful.{direct_view}
use Rattle.siri_model.proofs.laws.meaning.direct_responses_are_views.Goals as goal

pub returns : goal.returns
returns c = direct_view
