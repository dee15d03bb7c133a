use Rattle.siri_laws.proofs.two_ends.Acts
use Rattle.siri_laws.proofs.link_laws.running_ends_meet_where_quiet.Goals as goal

pub returns-clause-goal : goal.returns-clause-goal
returns-clause-goal g c f laws = Acts.views f laws

pub returns-clause-quiet : goal.returns-clause-quiet
returns-clause-quiet g c f laws = Acts.meets_where_quiet f laws
