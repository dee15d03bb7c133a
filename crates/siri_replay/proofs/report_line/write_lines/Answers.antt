use Rattle.std.proofs.Common.{Err, false, arith}
use Rattle.std.proofs.lemmas.Result.{err_from_is_err_and}
use Rattle.siri_outside.specs.MetFailures.{has_failed}
use Rattle.siri_lines.proofs.Meeting.{sink_more}
use Rattle.siri_replay.proofs.ReportLines.{lines_cut, lines_more}
use Rattle.siri_document.proofs.Results.{on_err}
use Rattle.siri_replay.proofs.report_line.write_lines.Goals as goal

pub returns-in_err-write_line-clause-err : goal.returns-in_err-write_line-clause-err
returns-in_err-write_line-clause-err g c = on_err c.from_residual.result
    (lines_cut _ _ _ c.args.lines.now c.loop-line.line-index c.line-item.result c.loop-line-test.true c.line-item.is
    c.loop-line.invariant.written c.in_err-write_line.ensures.err)

pub returns-in_err-write_line-clause-meets : goal.returns-in_err-write_line-clause-meets
returns-in_err-write_line-clause-meets g c =
    let p = err_from_is_err_and c.from_residual.result c.from_residual.ensures.1 in
    rw (p.1, p.2) (sink_more (has_failed {T = Unit {0}} (Err c.in_err-write_line.field-0.0)) _ _ _ _ _ _
    c.loop-line.invariant.meets c.in_err-write_line.ensures.meets)

pub loop-line-preserved : goal.loop-line-preserved
loop-line-preserved g c = record {
  written = lines_more _ _ _ c.args.lines.now c.loop-line.line-index c.line-item.result c.loop-line-test.true
      c.line-item.is c.loop-line.invariant.written c.in_ok-write_line.ensures.ok;
  later = omega (arith, c.loop-line.invariant.later, c.write_line.ensures.cause.later);
  meets = sink_more false _ _ _ _ _ _ c.loop-line.invariant.meets c.in_ok-write_line.ensures.meets;
}
