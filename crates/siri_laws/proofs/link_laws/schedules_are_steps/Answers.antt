use Rattle.siri_laws.proofs.two_ends.Acts
use Rattle.siri_laws.proofs.link_laws.schedules_are_steps.Goals as goal

pub returns : goal.returns
returns g c f = Acts.events_are_acts f
