use Rattle.siri_model.proofs.Current.{last_taken}
use Rattle.siri_model.proofs.laws.histories.the_last_observation_is_current.Goals as goal

pub returns : goal.returns
returns c = last_taken
