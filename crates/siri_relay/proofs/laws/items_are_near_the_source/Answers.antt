use Rattle.siri_relay.proofs.Shows.{near_source}
use Rattle.siri_relay.proofs.laws.items_are_near_the_source.Goals as goal

pub returns : goal.returns
returns c = near_source
