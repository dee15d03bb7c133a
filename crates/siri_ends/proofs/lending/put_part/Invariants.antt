use Rattle.std.proofs.Common.{drop}
use Rattle.siri_ends.specs.Pieces.{part_text}
use Rattle.siri_ends.proofs.Puts.{PutsFront}
use Rattle.siri_ends.proofs.lending.put_part.Given as goal

abbrev pub invariant-loop-piece : goal.invariant-loop-piece
invariant-loop-piece g l = record {
  ready : g.S.Sink.is_ready l.sink;
  puts : PutsFront g.S.Sink.takes (part_text l.fn.head l.fn.changes l.fn.frame)
      (part_text l.fn.head l.fn.changes (drop l.piece-index l.fn.frame)) (l.fn.sink, l.fn.gathered.items)
      (l.sink, l.gathered.items);
}
