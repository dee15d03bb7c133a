use Rattle.std.proofs.Common.{drop}
use Rattle.siri_model.specs.History.{History, current, now_of}
use Rattle.siri_producer.specs.Known.{SameButReads, StandsFor}
use Rattle.siri_ends.specs.Pieces.{direct_text}
use Rattle.siri_ends.proofs.Puts.{PutsFront}
use Rattle.siri_ends.proofs.lending.put_direct.Given as goal

abbrev pub invariant-loop-piece : goal.invariant-loop-piece
invariant-loop-piece g l = record {
  ready : g.S.Sink.is_ready l.sink;
  rest : SameButReads l.fn.producer l.producer;
  puts : (h : History) → StandsFor l.fn.producer h
      → PutsFront g.S.Sink.takes (direct_text (now_of h) (current h) l.fn.request l.fn.frame)
      (direct_text (now_of h) (current h) l.fn.request (drop l.piece-index l.fn.frame)) (l.fn.sink, l.fn.gathered.items)
      (l.sink, l.gathered.items);
}
