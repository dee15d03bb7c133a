use Rattle.siri_store.proofs.Orders.{left_next, some_next}
use Rattle.siri_store.proofs.stamps.Stamps.put_all.Goals as goal

pub loop-moment-preserved : goal.loop-moment-preserved
loop-moment-preserved c = record {
  left =
      left_next c.args.order c.args.key.now c.into_iter-moment-iterator.result c.loop-moment.moment-iterator
      c.in-Some.moment c.next.new.self
      c.in-Some.ensures.steps c.args.self.now c.loop-moment.self c.put.new.self c.in_ok-put.ensures.ok
      c.loop-moment.invariant.left;
  some =
      some_next c.args.order c.args.key.now c.into_iter-moment-iterator.result c.loop-moment.moment-iterator
      c.in-Some.moment c.next.new.self
      c.in-Some.ensures.steps c.args.self.now c.loop-moment.self c.put.new.self c.in_ok-put.ensures.ok
      c.loop-moment.invariant.left c.loop-moment.invariant.some;
}
