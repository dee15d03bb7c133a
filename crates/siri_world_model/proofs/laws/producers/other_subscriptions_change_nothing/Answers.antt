use Rattle.siri_world_model.proofs.Apart.{others_change_nothing}
use Rattle.siri_world_model.proofs.laws.producers.other_subscriptions_change_nothing.Goals as goal

pub returns : goal.returns
returns c = others_change_nothing
