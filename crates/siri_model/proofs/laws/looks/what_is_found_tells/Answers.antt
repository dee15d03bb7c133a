use Rattle.siri_model.proofs.Outside.{found_tell}
use Rattle.siri_model.proofs.laws.looks.what_is_found_tells.Goals as goal

pub returns : goal.returns
returns c = found_tell
