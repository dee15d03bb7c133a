use Rattle.siri_ends.proofs.Paths.{asks_the_same}
use Rattle.siri_ends.proofs.lite.laws.a_get_asks_what_its_post_asks.Goals as goal

pub returns : goal.returns
returns c = asks_the_same
