use Rattle.siri_ends.specs.At.{at_of}
use Rattle.siri_ends.proofs.Sends.{Comes}
use Rattle.siri_ends.proofs.sending.send_all.Given as goal

abbrev pub invariant-loop-left : goal.invariant-loop-left
invariant-loop-left g l =
    Comes g.T.Taker.identity g.T.Taker.stands g.T.Taker.holds (g.T.Taker.posts l.fn.target) g.T.Taker.manner l.fn.list
    (at_of l.fn.taker l.fn.tally (g.W.Wire.tells l.fn.wire) (g.W.Wire.faults l.fn.wire))
    (at_of l.taker l.tally (g.W.Wire.tells l.wire) (g.W.Wire.faults l.wire))
    l.left l.queue.items

abbrev pub decreases-loop-left : goal.decreases-loop-left
decreases-loop-left g l = l.left
