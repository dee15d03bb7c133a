use Rattle.siri_life.proofs.Every
use Rattle.siri_life.proofs.laws.networks.no_gap_is_shown.Goals as goal

pub returns : goal.returns
returns g c f laws = Every.no_gap f laws
