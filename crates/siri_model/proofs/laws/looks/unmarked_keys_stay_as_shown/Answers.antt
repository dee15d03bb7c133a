use Rattle.siri_model.proofs.Outside.{same_shown}
use Rattle.siri_model.proofs.laws.looks.unmarked_keys_stay_as_shown.Goals as goal

pub returns : goal.returns
returns c = same_shown
