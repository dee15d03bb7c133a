use Rattle.siri_life.proofs.Claims
use Rattle.siri_life.proofs.laws.links.link_view_is_goal.Goals as goal

pub returns : goal.returns
returns g c f laws = Claims.views f laws
