use Rattle.std.proofs.Common.{◌<◌, ◌∙◌, arith, length, length-take-le, take}
use Rattle.std.proofs.lemmas.Result.{err_from_is_err_and}
use Rattle.siri_http.proofs.Connections.{took_more, took_stops}
use Rattle.siri_http.proofs.connection.fill.Goals as goal

pub returns-in_err-filled-clause-end : goal.returns-in_err-filled-clause-end
returns-in_err-filled-clause-end g c =
    let p = err_from_is_err_and c.from_residual.result c.from_residual.ensures.1 in
    let came = take c.loop-filled.filled c.loop-filled.buffer in
    let fewer : length came < length c.args.buffer.now =
    omega (
      arith,
      length-take-le c.loop-filled.filled c.loop-filled.buffer c.loop-filled.invariant.within,
      c.loop-filled-test.true,
      c.loop-filled.invariant.same,
    ) in
    rw (p.1, p.2) (came, fewer, took_stops _ _ _ came _ c.loop-filled.invariant.took c.in_err-filled.ensures.end)

pub loop-filled-preserved : goal.loop-filled-preserved
loop-filled-preserved g c = record {
  there = c.read_some.ensures.open;
  took = took_more _ _ _ c.loop-filled.filled c.in_ok-filled.field-0 c.loop-filled.buffer c.read_some.new.buffer
      c.read_some.ensures.kept c.loop-filled.invariant.took c.in_ok-filled.ensures.bytes;
  same = c.read_some.ensures.length ∙ c.loop-filled.invariant.same;
  within = c.in_ok-filled.ensures.bound;
  later = omega (arith, c.loop-filled.invariant.later, c.read_some.ensures.cause.later);
}
