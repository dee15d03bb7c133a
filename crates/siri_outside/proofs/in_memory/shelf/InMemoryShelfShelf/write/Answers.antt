use Rattle.std.proofs.Common.{sym, ◌∙◌, subst}
use Rattle.siri_outside.specs.Rows.{HasByteTables, InOrder, with_puts}
use Rattle.siri_outside.proofs.Order.{order_puts}
use Rattle.siri_outside.proofs.in_memory.shelf.InMemoryShelfShelf.write.Goals as goal

-- the rows after puts are in order, and of tables that a byte names
pub invariant_of-self-2 : goal.invariant_of-self-2
invariant_of-self-2 c =
    let are = c.in_ok-rows.ensures.rows ∙ (λ i. with_puts (c.in_ok-copy.ensures i) (c.slice.ensures i)) in (
      subst InOrder (sym are) (order_puts c.self.inside.rows c.args.list.now c.self.invariant.0),
      c.in_ok-rows.ensures.tables (subst HasByteTables (sym (c.in_ok-copy.ensures)) c.self.invariant.1),
    )
