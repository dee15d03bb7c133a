use Rattle.siri_responder.proofs.Reached.{drop_here}
use Rattle.siri_keep.proofs.Named.{named_step}
use Rattle.siri_keep.proofs.keys.append_named.Goals as goal

pub loop-delivery-preserved : goal.loop-delivery-preserved
loop-delivery-preserved c =
    named_step _ _ _ _ c.delivery-item.result _ _ (rw c.slice-items.ensures at c.in_ok-append_items.ensures)
    (rw c.slice-removals.ensures at c.in_ok-append_keys.ensures)
    (drop_here c.args.deliveries.now c.loop-delivery.delivery-index c.delivery-item.result c.loop-delivery-test.true c.delivery-item.is)
    c.loop-delivery.invariant
