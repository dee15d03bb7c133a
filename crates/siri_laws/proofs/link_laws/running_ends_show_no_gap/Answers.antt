use Rattle.siri_laws.proofs.two_ends.Acts
use Rattle.siri_laws.proofs.link_laws.running_ends_show_no_gap.Goals as goal

pub returns-clause-carries : goal.returns-clause-carries
returns-clause-carries g c f laws = Acts.carries_its_round f laws

pub returns-clause-no_gap : goal.returns-clause-no_gap
returns-clause-no_gap g c f laws = Acts.no_gap f laws
