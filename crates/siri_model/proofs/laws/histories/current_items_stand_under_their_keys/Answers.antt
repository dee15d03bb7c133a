use Rattle.siri_model.proofs.Current.{current_keyed}
use Rattle.siri_model.proofs.laws.histories.current_items_stand_under_their_keys.Goals as goal

pub returns : goal.returns
returns c = current_keyed
