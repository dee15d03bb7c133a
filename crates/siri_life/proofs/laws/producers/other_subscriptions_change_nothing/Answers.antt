use Rattle.siri_life.proofs.Alone
use Rattle.siri_life.proofs.laws.producers.other_subscriptions_change_nothing.Goals as goal

pub returns : goal.returns
returns g c f s t = Alone.apart f s t
