use Rattle.siri_life.proofs.Claims
use Rattle.siri_life.proofs.laws.links.link_carries_its_rounds.Goals as goal

pub returns : goal.returns
returns g c f laws = Claims.carries_its_round f laws
