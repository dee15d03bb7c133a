use Rattle.std.proofs.Common.{sym, subst}
use Rattle.siri_outside.specs.Rows.{HasByteTables, InOrder}
use Rattle.siri_outside.proofs.Order.{order_none}
use Rattle.siri_outside.proofs.in_memory.shelf.InMemoryShelf.new.Goals as goal

pub invariant_of-result : goal.invariant_of-result
invariant_of-result c = (subst InOrder (sym c.new.ensures) order_none, subst HasByteTables (sym c.new.ensures) tt)
