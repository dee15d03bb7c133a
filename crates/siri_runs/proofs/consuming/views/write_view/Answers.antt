use Rattle.std.proofs.Common.{◌++◌, length}
use Rattle.std.proofs.KnownBytes.{Appends-trans}
use Rattle.siri_outside.specs.MetFailures.{has_failed}
use Rattle.siri_lines.proofs.Meeting.{sink_more}
use Rattle.siri_lines.proofs.Written.{front_longer, front_more}
use Rattle.siri_document.specs.script.Spaced.{line_feed}
use Rattle.siri_document.specs.script.ViewLines.{view_line}
use Rattle.siri_document.proofs.Results.{on_err, on_err_with, on_ok_with}
use Rattle.siri_runs.specs.consumers.Views.{items_text}
use Rattle.siri_runs.proofs.consumers.Shown.{ended_is, front_is, line_is}
use Rattle.siri_runs.proofs.consuming.views.write_view.Goals as goal

pub returns-in_err-write_whole-clause-err : goal.returns-in_err-write_whole-clause-err
returns-in_err-write_whole-clause-err g c =
    let text = view_line c.args.consumer.now c.args.identifier.now c.args.held.now (length c.args.view.now) in
    let is = line_is c.args.consumer.now c.args.identifier.now c.args.held.now c.args.view.now c.len.result
    c.in_ok-line.line.items c.in_ok-line.ensures c.len.ensures.number in
    on_err c.from_residual-in_err-write_whole.result
    (front_longer _ _ (text ++ line_feed) (items_text c.args.view.now)
    (front_is _ _ c.in_ok-line.line.items text is c.in_err-write_whole.ensures.err))

pub returns-clause-ok : goal.returns-clause-ok
returns-clause-ok g c =
    let text = view_line c.args.consumer.now c.args.identifier.now c.args.held.now (length c.args.view.now) in
    let is = line_is c.args.consumer.now c.args.identifier.now c.args.held.now c.args.view.now c.len.result
    c.in_ok-line.line.items c.in_ok-line.ensures c.len.ensures.number in
    on_ok_with c.write_items.result (λ p. Appends-trans _ _ _ (text ++ line_feed) (items_text c.args.view.now)
    (ended_is _ _ c.in_ok-line.line.items text is c.in_ok-write_whole.ensures.ok) p) c.write_items.ensures.ok

pub returns-clause-err : goal.returns-clause-err
returns-clause-err g c =
    let text = view_line c.args.consumer.now c.args.identifier.now c.args.held.now (length c.args.view.now) in
    let is = line_is c.args.consumer.now c.args.identifier.now c.args.held.now c.args.view.now c.len.result
    c.in_ok-line.line.items c.in_ok-line.ensures c.len.ensures.number in
    on_err_with c.write_items.result (λ w. front_more _ _ _ (text ++ line_feed) (items_text c.args.view.now)
    (ended_is _ _ c.in_ok-line.line.items text is c.in_ok-write_whole.ensures.ok) w) c.write_items.ensures.err

pub returns-clause-meets : goal.returns-clause-meets
returns-clause-meets g c = sink_more (has_failed c.write_items.result) _ _ _ _ _ _ c.in_ok-write_whole.ensures.meets c.write_items.ensures.meets
