use Rattle.std.proofs.Common.{◌≡◌, length}
use Rattle.siri_ends.specs.Pieces.{items_left}
use Rattle.siri_ends.proofs.Puts.{PutsFront}
use Rattle.siri_ends.proofs.lending.put_items.Given as goal

abbrev pub invariant-loop-piece : goal.invariant-loop-piece
invariant-loop-piece g l = record {
  ready : g.S.Sink.is_ready l.sink;
  puts : PutsFront g.S.Sink.takes (items_left l.fn.pieces) (items_left l.pieces) (l.fn.sink, l.fn.gathered.items)
      (l.sink, l.gathered.items);
  same : l.pieces.items.counter.ghost_name ≡ l.fn.pieces.items.counter.ghost_name;
}

abbrev pub decreases-loop-piece : goal.decreases-loop-piece
decreases-loop-piece g l = length (items_left l.pieces)
