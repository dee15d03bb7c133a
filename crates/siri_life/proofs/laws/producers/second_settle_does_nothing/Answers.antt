use Rattle.siri_life.proofs.Alone
use Rattle.siri_life.proofs.laws.producers.second_settle_does_nothing.Goals as goal

pub returns : goal.returns
returns g c f rests n = Alone.settles_twice f rests n
