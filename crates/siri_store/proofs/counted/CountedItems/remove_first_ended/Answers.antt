use Rattle.siri_store.proofs.Earliest.{expired_own, expired_unclosed}
use Rattle.siri_store.proofs.counted.CountedItems.remove_first_ended.Goals as goal

pub invariant_of-self : goal.invariant_of-self
invariant_of-self c =
    let es = c.self.inside.items in
    let left = c.remove_first_ended in
    record {
      own = expired_own es left.new.self left.result c.self.invariant.own left.ensures.rest left.ensures.same;
      none_closed =
          expired_unclosed es left.new.self left.result
          c.self.invariant.none_closed left.ensures.rest left.ensures.same;
    }
