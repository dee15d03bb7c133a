use Rattle.std.proofs.Common.{[], false, refl, ◌+◌, ◌∙◌, append-nil, arith, length-take, length-drop, sym, subst}
use Rattle.std.proofs.lemmas.Result.{err_from_is_err_and, IfErr-weaker}
use Rattle.siri_lines.specs.Ends.{HasNoBreak}
use Rattle.siri_lines.specs.RunResult.{verdict}
use Rattle.siri_lines.proofs.LineBreaks.{cut_at, no_break_append, no_break_before, no_break_whole}
use Rattle.siri_lines.proofs.Steps.{on_ok_with}
use Rattle.siri_lines.proofs.Meeting.{sink_more, sink_none}
use Rattle.siri_lines.proofs.Worlds.{kept_no_fault, front_ends_each, front_last, front_more, front_none, run_ends_each, run_leads}
use Rattle.siri_lines.proofs.reader.Reader.take.Goals as goal

pub loop-end-init : goal.loop-end-init
loop-end-init g c = record {
  front = front_none g.T.LineTaker.fits _ c.args.taker.now c.args.self.now _ c.args.piece.now c.requires.begun;
  most = refl;
  within = c.requires;
  room = omega arith;
  later = omega arith;
  wrote = sink_none _ _;
}

pub end_run-requires-clause-run : goal.end_run-requires-clause-run
end_run-requires-clause-run g c = let first = c.in-Some.ensures in
    no_break_before c.loop-end.rest.now c.in-Some.end (omega (arith, first.0.high)) first.0.before

pub returns-in_err-end_run-clause-err : goal.returns-in_err-end_run-clause-err
returns-in_err-end_run-clause-err g c =
    let first = c.in-Some.ensures in
    let p = err_from_is_err_and c.from_residual.result c.from_residual.ensures.1 in
    rw (p.1, p.2) (front_ends_each g.T.LineTaker.fits (λ most. verdict most g.T.LineTaker.event) c.args.taker.now
    c.loop-end.taker c.args.self.now c.loop-end.self _ _ _ c.args.piece.now c.loop-end.rest.now _ _ _
    c.loop-end.invariant.most (cut_at c.loop-end.rest.now c.in-Some.end first.0.high first.1)
    c.loop-end.invariant.front c.in_err-end_run.ensures.err)

pub loop-end-preserved : goal.loop-end-preserved
loop-end-preserved g c =
    let first = c.in-Some.ensures in
    record {
      front = rw c.split_at.ensures.back (front_more g.T.LineTaker.fits
          (λ most. verdict most g.T.LineTaker.event) c.args.taker.now c.loop-end.taker c.end_run.new.taker
          c.args.self.now c.loop-end.self c.end_run.new.self _ _ _ c.args.piece.now c.loop-end.rest.now _ _
          c.loop-end.invariant.most (cut_at c.loop-end.rest.now c.in-Some.end first.0.high first.1)
          c.loop-end.invariant.front c.in_ok-end_run.ensures.ok);
      most = c.end_run.ensures.most ∙ c.loop-end.invariant.most;
      within = c.in_ok-end_run.ensures.within;
      room = rw c.split_at.ensures.back (omega (
        arith,
        first.0.high,
        length-take c.in-Some.end c.loop-end.rest.now,
        length-drop (c.in-Some.end + 1) c.loop-end.rest.now,
        c.in_ok-end_run.ensures.room,
        c.loop-end.invariant.room,
      ));
      later = omega (arith, c.loop-end.invariant.later, c.end_run.ensures.cause.later);
      wrote = sink_more false _ _ _ _ _ _ c.loop-end.invariant.wrote c.in_ok-end_run.ensures.meets;
    }

pub returns-clause-ok : goal.returns-clause-ok
returns-clause-ok g c =
    let here = no_break_whole c.loop-end.rest.now c.in_default.ensures in
    on_ok_with c.push.result (λ kept also. front_last g.T.LineTaker.fits
    (λ most. verdict most g.T.LineTaker.event) c.args.taker.now c.loop-end.taker c.args.self.now c.loop-end.self
    c.push.new.self _ _ c.args.piece.now c.loop-end.rest.now c.loop-end.invariant.most c.loop-end.invariant.front
    (run_leads g.T.LineTaker.fits (verdict c.loop-end.self.most g.T.LineTaker.event) c.loop-end.taker
    c.loop-end.self c.push.new.self _ c.loop-end.rest.now c.loop-end.invariant.within.begun here
    c.push.ensures.lines kept.0)) c.push.ensures.ok c.push.ensures.ok

pub returns-clause-err : goal.returns-clause-err
returns-clause-err g c =
    let here = no_break_whole c.loop-end.rest.now c.in_default.ensures in
    IfErr-weaker c.push.result _ _ (λ end none. front_ends_each g.T.LineTaker.fits
    (λ most. verdict most g.T.LineTaker.event) c.args.taker.now c.loop-end.taker c.args.self.now c.loop-end.self _ _
    _ c.args.piece.now c.loop-end.rest.now c.loop-end.rest.now [] end c.loop-end.invariant.most
    (sym (append-nil c.loop-end.rest.now)) c.loop-end.invariant.front
    (run_ends_each g.T.LineTaker.fits g.T.LineTaker.event c.loop-end.taker c.loop-end.self _ c.loop-end.rest.now end
    c.loop-end.invariant.within.begun here none)) c.push.ensures.err

pub returns-clause-within : goal.returns-clause-within
returns-clause-within g c =
    let here = no_break_whole c.loop-end.rest.now c.in_default.ensures in
    on_ok_with c.push.result (λ kept also. record {
      most = rw c.push.ensures.most c.loop-end.invariant.within.most;
      lines = rw (c.push.ensures.most, c.push.ensures.lines) c.loop-end.invariant.within.lines;
      line = kept.1;
      begun = subst HasNoBreak (sym kept.0) (no_break_append c.loop-end.self.line.items c.loop-end.rest.now c.loop-end.invariant.within.begun here);
    }) c.push.ensures.ok c.push.ensures.ok

pub returns-in_err-end_run-clause-meets : goal.returns-in_err-end_run-clause-meets
returns-in_err-end_run-clause-meets g c =
    let p = err_from_is_err_and c.from_residual.result c.from_residual.ensures.1 in
    rw (p.1, p.2) (sink_more _ _ _ _ _ _ _ c.loop-end.invariant.wrote c.in_err-end_run.ensures.meets)

pub returns-clause-meets : goal.returns-clause-meets
returns-clause-meets g c = rw (kept_no_fault c.loop-end.self c.loop-end.rest.now c.push.result c.push.ensures.err) c.loop-end.invariant.wrote
