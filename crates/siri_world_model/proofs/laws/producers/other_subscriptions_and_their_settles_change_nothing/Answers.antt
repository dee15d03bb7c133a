use Rattle.siri_world_model.proofs.Once.{left_out}
use Rattle.siri_world_model.proofs.laws.producers.other_subscriptions_and_their_settles_change_nothing.Goals as goal

pub returns : goal.returns
returns c = left_out
