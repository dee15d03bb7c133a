use Rattle.siri_keeping.proofs.Helds.{helds_expire}
use Rattle.siri_keeping.proofs.held_laws.subscriptions_expire.Goals as goal

pub returns : goal.returns
returns c = helds_expire
