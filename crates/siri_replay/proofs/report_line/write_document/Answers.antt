use Rattle.std.proofs.Common.{Err, false, append_assoc}
use Rattle.std.proofs.lemmas.Result.{err_from_is_err_and}
use Rattle.siri_outside.specs.MetFailures.{has_failed}
use Rattle.siri_lines.proofs.Meeting.{sink_more}
use Rattle.siri_document.specs.script.Spaced.{line_feed, space}
use Rattle.siri_document.proofs.Results.{on_err, on_err_with}
use Rattle.siri_lines.proofs.Written.{front_longer, front_more}
use Rattle.siri_replay.proofs.report_line.write_document.Goals as goal

pub returns-in_err-write_text-clause-err : goal.returns-in_err-write_text-clause-err
returns-in_err-write_text-clause-err g c = on_err c.from_residual.result (rw append_assoc (front_longer _ _ c.args.front.now _ c.in_err-write_text.ensures.err))

pub returns-in_err-write_text-2-clause-err : goal.returns-in_err-write_text-2-clause-err
returns-in_err-write_text-2-clause-err g c = on_err c.from_residual-in_err-write_text-2.result
    (rw (append_assoc, append_assoc) (front_more _ _ _ c.args.front.now _ c.in_ok-write_text.ensures.ok
    (front_longer _ _ space _ c.in_err-write_text-2.ensures.err)))

pub returns-in_err-write_text-3-clause-err : goal.returns-in_err-write_text-3-clause-err
returns-in_err-write_text-3-clause-err g c = on_err c.from_residual-in_err-write_text-3.result
    (rw (append_assoc, append_assoc) (front_more _ _ _ c.args.front.now _ c.in_ok-write_text.ensures.ok
    (front_more _ _ _ space _ c.in_ok-write_text-2.ensures.ok
    (front_longer _ _ c.args.document.now line_feed c.in_err-write_text-3.ensures.err))))

pub returns-clause-err : goal.returns-clause-err
returns-clause-err g c = on_err_with c.write_text-4.result
    (λ front. rw (append_assoc, append_assoc)
    (front_more _ _ _ c.args.front.now _ c.in_ok-write_text.ensures.ok
    (front_more _ _ _ space _ c.in_ok-write_text-2.ensures.ok
    (front_more _ _ _ c.args.document.now line_feed c.in_ok-write_text-3.ensures.ok front)))) c.write_text-4.ensures.err

-- ---- what was met of named failures

pub returns-in_err-write_text-2-clause-meets : goal.returns-in_err-write_text-2-clause-meets
returns-in_err-write_text-2-clause-meets g c =
    let p = err_from_is_err_and c.from_residual-in_err-write_text-2.result c.from_residual-in_err-write_text-2.ensures.1 in
    rw (p.1, p.2) (sink_more (has_failed {T = Unit {0}} (Err c.in_err-write_text-2.field-0.0)) _ _ _ _ _ _
    c.in_ok-write_text.ensures.meets c.in_err-write_text-2.ensures.meets)

pub returns-in_err-write_text-3-clause-meets : goal.returns-in_err-write_text-3-clause-meets
returns-in_err-write_text-3-clause-meets g c =
    let p = err_from_is_err_and c.from_residual-in_err-write_text-3.result c.from_residual-in_err-write_text-3.ensures.1 in
    let before = sink_more false _ _ _ _ _ _ c.in_ok-write_text.ensures.meets c.in_ok-write_text-2.ensures.meets in
    rw (p.1, p.2) (sink_more (has_failed {T = Unit {0}} (Err c.in_err-write_text-3.field-0.0)) _ _ _ _ _ _ before c.in_err-write_text-3.ensures.meets)

pub returns-clause-meets : goal.returns-clause-meets
returns-clause-meets g c =
    let first = sink_more false _ _ _ _ _ _ c.in_ok-write_text.ensures.meets c.in_ok-write_text-2.ensures.meets in
    let before = sink_more false _ _ _ _ _ _ first c.in_ok-write_text-3.ensures.meets in
    sink_more (has_failed c.write_text-4.result) _ _ _ _ _ _ before c.write_text-4.ensures.meets
