use Rattle.siri_keeping.proofs.Kept.{covers_still}
use Rattle.siri_keeping.proofs.laws.live_items_stay_covered.Goals as goal

pub returns : goal.returns
returns c = covers_still
