use Rattle.siri_laws.proofs.lite.Run.{served_as_by_serve}
use Rattle.siri_laws.proofs.lite_laws.a_known_path_is_served_as_by_serve.Goals as goal

pub returns : goal.returns
returns c = served_as_by_serve
