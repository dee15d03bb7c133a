use Rattle.siri_model.proofs.Histories.{well_after}
use Rattle.siri_model.proofs.laws.tables.subscriptions_are_held_once.Goals as goal

pub returns : goal.returns
returns c h = (well_after h).once
