use Rattle.siri_life.proofs.Claims
use Rattle.siri_life.proofs.laws.links.link_meets_where_quiet.Goals as goal

pub returns : goal.returns
returns g c f laws = Claims.meets_where_quiet f laws
