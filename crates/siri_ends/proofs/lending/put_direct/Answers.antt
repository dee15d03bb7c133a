use Rattle.siri_model.specs.History.{current, now_of}
use Rattle.siri_ends.specs.Pieces.{direct_piece}
use Rattle.std.proofs.lemmas.Result.{err_from_is_err_and}
use Rattle.std.proofs.Common.{Err}
use Rattle.siri_ends.proofs.Lends.{same_stands, same_then, unless_then}
use Rattle.siri_ends.proofs.Puts.{pieces_left, puts_more}
use Rattle.siri_ends.proofs.lending.put_direct.Goals as goal

pub loop-piece-preserved : goal.loop-piece-preserved
loop-piece-preserved g c =
    let frame = c.args.frame.now in
    let lt = rw c.slice-piece-items.ensures at c.loop-piece-test.true in
    let is = rw c.slice-piece-items.ensures at c.piece-item.is in
    let same = c.loop-piece.invariant.rest in
    record {
      ready = c.put_direct_piece.ensures.ready;
      rest = same_then c.args.producer.now c.loop-piece.producer c.put_direct_piece.new.producer same
          c.in_ok-put_direct_piece.ensures.rest;
      puts = λ h stands.
          let text_of = direct_piece (now_of h) (current h) c.args.request.now in
          puts_more g.S.Sink.takes g.met.S.Sink.takes_both _ _ _ (text_of c.piece-item.result) _ _ _
          (c.loop-piece.invariant.puts h stands)
          (pieces_left text_of frame c.loop-piece.piece-index c.piece-item.result lt is)
          (c.in_ok-put_direct_piece.ensures.takes h
          (same_stands c.args.producer.now c.loop-piece.producer h same stands));
    }

pub returns-in_err-put_direct_piece-clause-rest : goal.returns-in_err-put_direct_piece-clause-rest
returns-in_err-put_direct_piece-clause-rest g c =
    let p = err_from_is_err_and c.from_residual.result c.from_residual.ensures.1 in
    rw (p.1, p.2)
    (unless_then {T = Unit {0}}
    (Err _) c.args.producer.now c.loop-piece.producer c.put_direct_piece.new.producer c.loop-piece.invariant.rest
    c.in_err-put_direct_piece.ensures.rest)
