use Rattle.siri_records.proofs.Placed.{copied_step, copied_order}
use Rattle.siri_records.proofs.keyed.KeyedItemsCopies.copy.Goals as goal

pub loop-entry-preserved : goal.loop-entry-preserved
loop-entry-preserved c =
    copied_step c.deref-entry-items.result.now c.loop-entry.entries.items _ c.loop-entry.entry-index c.entry-item.result
    _ c.loop-entry-test.true c.entry-item.is c.in_ok-copy_entry.ensures c.in_ok-push.ensures.items
    c.loop-entry.invariant

pub invariant_of-result : goal.invariant_of-result
invariant_of-result c =
    copied_order c.deref-entry-items.result.now c.loop-entry.entries.items c.loop-entry.entry-index
    c.loop-entry-test.false c.loop-entry.invariant (rw c.deref-entry-items.ensures.value c.self.invariant)
