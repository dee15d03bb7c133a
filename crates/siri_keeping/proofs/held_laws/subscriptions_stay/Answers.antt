use Rattle.siri_keeping.proofs.Helds.{helds_stay}
use Rattle.siri_keeping.proofs.held_laws.subscriptions_stay.Goals as goal

pub returns : goal.returns
returns c = helds_stay
