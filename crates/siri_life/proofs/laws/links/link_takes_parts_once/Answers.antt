use Rattle.siri_life.proofs.Claims
use Rattle.siri_life.proofs.laws.links.link_takes_parts_once.Goals as goal

pub returns : goal.returns
returns g c f laws = Claims.taken_once f laws
