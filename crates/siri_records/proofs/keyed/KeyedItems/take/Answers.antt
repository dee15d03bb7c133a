use Rattle.siri_records.proofs.Placed.{order_viewed}
use Rattle.siri_records.proofs.keyed.KeyedItems.take.Goals as goal

pub returns-clause-ordered : goal.returns-clause-ordered
returns-clause-ordered c = order_viewed _ c.take.ensures.ordered
