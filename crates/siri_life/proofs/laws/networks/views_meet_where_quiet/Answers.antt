use Rattle.siri_life.proofs.Every
use Rattle.siri_life.proofs.laws.networks.views_meet_where_quiet.Goals as goal

pub returns : goal.returns
returns g c f laws = Every.meets_where_quiet f laws
