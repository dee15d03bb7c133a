use Rattle.siri_life.proofs.Every
use Rattle.siri_life.proofs.laws.networks.packets_carry_their_rounds.Goals as goal

pub returns : goal.returns
returns g c f laws = Every.carries_its_round f laws
