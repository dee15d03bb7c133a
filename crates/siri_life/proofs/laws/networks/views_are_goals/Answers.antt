use Rattle.siri_life.proofs.Every
use Rattle.siri_life.proofs.laws.networks.views_are_goals.Goals as goal

pub returns : goal.returns
returns g c f laws = Every.views f laws
