use Rattle.siri_store.proofs.Earliest.{unclosed_removed}
use Rattle.siri_store.proofs.OwnKeys.{own_removed}
use Rattle.siri_store.proofs.counted.CountedItems.remove.Goals as goal

pub invariant_of-self : goal.invariant_of-self
invariant_of-self c =
    let es = c.self.inside.items in
    record {
      own = rw c.remove.ensures.rest (own_removed es c.args.key.now c.self.invariant.own);
      none_closed = rw c.remove.ensures.rest (unclosed_removed es c.args.key.now c.self.invariant.none_closed);
    }
