use Rattle.siri_view.proofs.Unchanged.{message_same}
use Rattle.siri_view.proofs.laws.other_outcomes_change_nothing.Goals as goal

pub returns : goal.returns
returns c = message_same
