use Rattle.std.proofs.Common.{arith, false, Ok, Err}
use Rattle.std.proofs.lemmas.Result.{err_from_is_err_and}
use Rattle.siri_outside.specs.MetFailures.{has_failed}
use Rattle.siri_lines.proofs.Meeting.{sink_none, sink_more, sink_write}
use Rattle.siri_lines.proofs.Written.{wrote_none, wrote_more}
use Rattle.siri_lines.proofs.writing.write_text.Goals as goal

pub loop-rest-init : goal.loop-rest-init
loop-rest-init g c = record { wrote = wrote_none _ _; later = omega arith; meets = sink_none _ _ }

pub loop-rest-preserved : goal.loop-rest-preserved
loop-rest-preserved g c = record {
  wrote = rw c.split_at.ensures.back (wrote_more _ _ _ _ _ _ c.loop-rest.invariant.wrote c.in_ok-count.ensures.bytes);
  later = omega (arith, c.loop-rest.invariant.later, c.write.ensures.cause.later);
  meets = sink_more false _ _ _ _ _ _ c.loop-rest.invariant.meets
      (sink_write (Ok c.in_ok-count.count) (g.K.Sink.held c.loop-rest.sink) (g.K.Sink.held c.write.new.self)
      (g.K.Sink.fails c.loop-rest.sink) (g.K.Sink.fails c.write.new.self) c.loop-rest.rest.now
      c.in_ok-count.ensures.bound c.in_ok-count.ensures.bytes c.in_ok-count.ensures.failing);
}

pub returns-in_err-count-clause-meets : goal.returns-in_err-count-clause-meets
returns-in_err-count-clause-meets g c =
    let p = err_from_is_err_and c.from_residual.result c.from_residual.ensures.1 in
    rw (p.1, p.2) (sink_more (has_failed {T = Unit {0}} (Err c.in_err-count.field-0.0)) _ _ _ _ _ _
    c.loop-rest.invariant.meets (sink_write (Err c.in_err-count.field-0.0) (g.K.Sink.held c.loop-rest.sink)
    (g.K.Sink.held c.write.new.self) (g.K.Sink.fails c.loop-rest.sink)
    (g.K.Sink.fails c.write.new.self) c.loop-rest.rest.now c.in_err-count.ensures.bound c.in_err-count.ensures.bytes
    c.in_err-count.ensures.failing))

pub returns-clause-meets : goal.returns-clause-meets
returns-clause-meets g c = c.loop-rest.invariant.meets
