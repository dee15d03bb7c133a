use Rattle.siri_model.proofs.FactsHold.{facts_hold}
use Rattle.siri_model.proofs.laws.followed.facts_hold_of_all_subscriptions.Goals as goal

pub returns : goal.returns
returns c = facts_hold
