use Rattle.std.proofs.Common.{Err, arith, false}
use Rattle.std.proofs.lemmas.Result.{err_from_is_err_and}
use Rattle.siri_outside.specs.MetFailures.{has_failed}
use Rattle.siri_lines.proofs.Meeting.{sink_more}
use Rattle.siri_document.proofs.Results.{on_err}
use Rattle.siri_runs.specs.consumers.inner.Shown.{shown}
use Rattle.siri_runs.proofs.consumers.Pieces.{pieces_all, pieces_cut, pieces_more}
use Rattle.siri_runs.proofs.consumers.Shown.{front_are, lines_are, lines_of}
use Rattle.siri_runs.proofs.consuming.views.write_views.Goals as goal

pub returns-in_err-write_view-clause-err : goal.returns-in_err-write_view-clause-err
returns-in_err-write_view-clause-err g c =
    let name = c.args.consumer.now.name in
    on_err c.from_residual.result (pieces_cut shown (lines_of name) _ _ _ c.args.consumer.now.held c.loop-place.place _
    c.in-Some.ensures c.loop-place.invariant.written
    (front_are _ _ c.name.result.now name (c.in-Some.identifier.now, c.in-Some.held, c.in-Some.view.now) c.name.ensures c.in_err-write_view.ensures.err))

pub loop-place-preserved : goal.loop-place-preserved
loop-place-preserved g c =
    let name = c.args.consumer.now.name in
    record {
      written = pieces_more shown (lines_of name) _ _ _ c.args.consumer.now.held c.loop-place.place _ c.in-Some.ensures c.loop-place.invariant.written
          (lines_are _ _ c.name.result.now name (c.in-Some.identifier.now, c.in-Some.held, c.in-Some.view.now) c.name.ensures c.in_ok-write_view.ensures.ok);
      later = omega (arith, c.loop-place.invariant.later, c.write_view.ensures.cause.later);
      meets = sink_more false _ _ _ _ _ _ c.loop-place.invariant.meets c.in_ok-write_view.ensures.meets;
    }

pub returns-in_default-clause-ok : goal.returns-in_default-clause-ok
returns-in_default-clause-ok g c = pieces_all shown (lines_of c.args.consumer.now.name) _ _ c.args.consumer.now.held
    c.loop-place.place c.in_default.ensures c.loop-place.invariant.written

pub returns-in_err-write_view-clause-meets : goal.returns-in_err-write_view-clause-meets
returns-in_err-write_view-clause-meets g c =
    let p = err_from_is_err_and c.from_residual.result c.from_residual.ensures.1 in
    rw (p.1, p.2) (sink_more (has_failed {T = Unit {0}} (Err c.in_err-write_view.field-0.0)) _ _ _ _ _ _
    c.loop-place.invariant.meets c.in_err-write_view.ensures.meets)
