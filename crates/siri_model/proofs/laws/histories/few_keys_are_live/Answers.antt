use Rattle.siri_model.proofs.Current.{few_live}
use Rattle.siri_model.proofs.laws.histories.few_keys_are_live.Goals as goal

pub returns : goal.returns
returns c = few_live
