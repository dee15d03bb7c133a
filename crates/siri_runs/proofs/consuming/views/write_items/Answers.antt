use Rattle.std.proofs.Common.{Err, ap, ◌∙◌, arith, false}
use Rattle.std.proofs.lemmas.Result.{err_from_is_err_and}
use Rattle.siri_outside.specs.MetFailures.{has_failed}
use Rattle.siri_lines.proofs.Meeting.{sink_more}
use Rattle.siri_document.specs.script.Items.{item_line}
use Rattle.siri_document.proofs.Results.{on_err}
use Rattle.siri_runs.proofs.consumers.Pieces.{pieces_all, pieces_begun, pieces_cut, pieces_more}
use Rattle.siri_runs.proofs.consumers.Shown.{ended_is, front_is, item_of, line_of}
use Rattle.siri_runs.proofs.consuming.views.write_items.Goals as goal

pub returns-in_err-item_line-clause-err : goal.returns-in_err-item_line-clause-err
returns-in_err-item_line-clause-err g c = on_err c.from_residual.result
    (pieces_begun item_of line_of _ _ c.args.view.now c.loop-place.place c.loop-place.invariant.written)

pub returns-in_err-write_whole-clause-err : goal.returns-in_err-write_whole-clause-err
returns-in_err-write_whole-clause-err g c =
    on_err c.from_residual-in_err-write_whole.result
    (pieces_cut item_of line_of _ _ _ c.args.view.now c.loop-place.place c.in-Some.item.now.value c.in-Some.ensures
    c.loop-place.invariant.written
    (front_is _ _ c.in_ok-item_line.field-0.items (item_line c.in-Some.item.now.value)
    (c.in_ok-item_line.ensures ∙ ap item_line c.deref.ensures) c.in_err-write_whole.ensures.err))

pub loop-place-preserved : goal.loop-place-preserved
loop-place-preserved g c = record {
  written = pieces_more item_of line_of _ _ _ c.args.view.now c.loop-place.place c.in-Some.item.now.value c.in-Some.ensures c.loop-place.invariant.written
      (ended_is _ _ c.in_ok-item_line.field-0.items (item_line c.in-Some.item.now.value)
      (c.in_ok-item_line.ensures ∙ ap item_line c.deref.ensures) c.in_ok-write_whole.ensures.ok);
  later = omega (arith, c.loop-place.invariant.later, c.write_whole.ensures.cause.later);
  meets = sink_more false _ _ _ _ _ _ c.loop-place.invariant.meets c.in_ok-write_whole.ensures.meets;
}

pub returns-in_default-clause-ok : goal.returns-in_default-clause-ok
returns-in_default-clause-ok g c = pieces_all item_of line_of _ _ c.args.view.now c.loop-place.place c.in_default.ensures c.loop-place.invariant.written

pub returns-in_err-write_whole-clause-meets : goal.returns-in_err-write_whole-clause-meets
returns-in_err-write_whole-clause-meets g c =
    let p = err_from_is_err_and c.from_residual-in_err-write_whole.result c.from_residual-in_err-write_whole.ensures.1 in
    rw (p.1, p.2) (sink_more (has_failed {T = Unit {0}} (Err c.in_err-write_whole.field-0.0)) _ _ _ _ _ _
    c.loop-place.invariant.meets c.in_err-write_whole.ensures.meets)
