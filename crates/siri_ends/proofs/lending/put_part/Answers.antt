use Rattle.siri_ends.specs.Pieces.{part_piece}
use Rattle.siri_ends.proofs.Puts.{pieces_left, puts_more}
use Rattle.siri_ends.proofs.lending.put_part.Goals as goal

pub loop-piece-preserved : goal.loop-piece-preserved
loop-piece-preserved g c =
    let frame = c.args.frame.now in
    let text_of = part_piece c.args.head.now c.args.changes.now in
    let lt = rw c.slice-piece-items.ensures at c.loop-piece-test.true in
    let is = rw c.slice-piece-items.ensures at c.piece-item.is in
    record {
      ready = c.put_part_piece.ensures.ready;
      puts = puts_more g.S.Sink.takes g.met.S.Sink.takes_both _ _ _
          (text_of c.piece-item.result) _ _ _ c.loop-piece.invariant.puts
          (pieces_left text_of frame c.loop-piece.piece-index c.piece-item.result lt is)
          c.in_ok-put_part_piece.ensures.takes;
    }
