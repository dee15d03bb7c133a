use Rattle.siri_model.proofs.Apart.{looks_tell_apart}
use Rattle.siri_model.proofs.laws.looks.looks_tell_which_keys_are_kept_apart.Goals as goal

pub returns : goal.returns
returns c = looks_tell_apart
