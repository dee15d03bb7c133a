use Rattle.siri_life.proofs.Every
use Rattle.siri_life.proofs.laws.networks.parts_are_taken_once.Goals as goal

pub returns : goal.returns
returns g c f laws = Every.taken_once f laws
