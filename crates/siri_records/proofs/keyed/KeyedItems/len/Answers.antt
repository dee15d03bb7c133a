use Rattle.siri_records.proofs.Placed.{order_viewed}
use Rattle.siri_records.proofs.keyed.KeyedItems.len.Goals as goal

pub returns-clause-ordered : goal.returns-clause-ordered
returns-clause-ordered c = rw (← c.self.view_is) (order_viewed _ c.self.invariant)
