use Rattle.siri_life.proofs.Claims
use Rattle.siri_life.proofs.laws.links.link_shows_no_gap.Goals as goal

pub returns : goal.returns
returns g c f laws = Claims.no_gap f laws
