use Rattle.siri_relay.proofs.Shows.{shows_view}
use Rattle.siri_relay.proofs.laws.a_level_relay_shows_its_view.Goals as goal

pub returns : goal.returns
returns c = shows_view
