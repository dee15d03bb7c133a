use Rattle.siri_change.proofs.Viewed.{view_stated}
use Rattle.siri_change.proofs.laws.views_are_tested.Goals as goal

pub returns : goal.returns
returns c = view_stated
