use Rattle.std.proofs.Common.{length}
use Rattle.siri_deliveries.specs.Pieces.{text_left}
use Rattle.siri_ends.proofs.Puts.{PutsFront}
use Rattle.siri_ends.proofs.lending.put_changes.Given as goal

abbrev pub invariant-loop-piece : goal.invariant-loop-piece
invariant-loop-piece g l = record {
  ready : g.S.Sink.is_ready l.sink;
  puts : PutsFront g.S.Sink.takes (text_left l.fn.pieces) (text_left l.pieces) (l.fn.sink, l.fn.gathered.items)
      (l.sink, l.gathered.items);
}

abbrev pub decreases-loop-piece : goal.decreases-loop-piece
decreases-loop-piece g l = length (text_left l.pieces)
