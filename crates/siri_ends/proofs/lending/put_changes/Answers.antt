use Rattle.siri_ends.proofs.Puts.{puts_more}
use Rattle.siri_ends.proofs.lending.put_changes.Goals as goal

pub loop-piece-preserved : goal.loop-piece-preserved
loop-piece-preserved g c = record {
  ready = c.put.ensures.ready;
  puts = puts_more g.S.Sink.takes g.met.S.Sink.takes_both _ _ _ c.in-Some.piece.items _ _ _ c.loop-piece.invariant.puts
      (rw c.in-Some.is at c.in_ok-piece.ensures.text) (rw c.deref.ensures.value at c.in_ok-put.ensures.takes);
}
