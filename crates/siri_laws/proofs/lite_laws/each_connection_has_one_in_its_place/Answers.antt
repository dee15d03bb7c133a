use Rattle.siri_laws.proofs.lite.Having.{has_one}
use Rattle.siri_laws.proofs.lite_laws.each_connection_has_one_in_its_place.Goals as goal

pub returns : goal.returns
returns c = has_one
