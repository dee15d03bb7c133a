use Rattle.siri_model.proofs.Current.{history_leaves}
use Rattle.siri_model.proofs.laws.histories.an_entry_is_of_its_key_alone.Goals as goal

pub returns : goal.returns
returns c = history_leaves
