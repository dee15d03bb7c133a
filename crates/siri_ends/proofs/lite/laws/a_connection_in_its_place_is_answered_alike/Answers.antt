use Rattle.siri_ends.proofs.Queries.{alike}
use Rattle.siri_ends.proofs.lite.laws.a_connection_in_its_place_is_answered_alike.Goals as goal

pub returns : goal.returns
returns c = alike
