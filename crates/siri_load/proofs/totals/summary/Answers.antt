use Rattle.std.proofs.Common.{List, Err, count_by, ap, ◌∙◌}
use Rattle.std.proofs.lemmas.Result.{err_from_is_err_and}
use Rattle.siri_world_model.specs.declared.line.Line.{Line}
use Rattle.siri_world_model.specs.Lines.{told_line}
use Rattle.siri_load.specs.Load.{fresh, is_quiet_view, is_item}
use Rattle.siri_load.proofs.Summed.{sums_stop, sums_done}
use Rattle.siri_load.proofs.totals.summary.Goals as goal

pub returns-in_err-play : goal.returns-in_err-play
returns-in_err-play c =
    let p = err_from_is_err_and c.from_residual-in_err-play.result c.from_residual-in_err-play.ensures.1 in
    sums_stop c.args.seed c.args.count c.play.new.self c.in_err-play.field-0.0 c.from_residual-in_err-play.result
    (λ line. line.items) (p.1 ∙ ap Err p.2)
    (c.in_err-play.ensures {u = tt} (fresh c.args.seed) (c.in_ok-player.ensures {u = tt}))

pub returns : goal.returns
returns c =
    sums_done c.args.seed c.args.count c.play.new.self c.views.new.self c.in_ok-play.field-0
    c.in_ok-text_of.field-0.items c.lines.result c.sent.result c.lost.result c.quiet.result c.items.result
    c.in_ok-views.views.items
    (c.in_ok-play.ensures {u = tt} (fresh c.args.seed) (c.in_ok-player.ensures {u = tt}))
    (c.in_ok-views.ensures {u = tt})
    c.lines.ensures c.sent.ensures.number c.lost.ensures
    (c.quiet.ensures ∙ ap (λ (lines : List Line). count_by (λ line. is_quiet_view (told_line line)) lines) c.deref.ensures.value)
    (c.items.ensures ∙ ap (λ (lines : List Line). count_by (λ line. is_item (told_line line)) lines) c.deref-2.ensures.value)
    (c.in_ok-text_of.ensures {u = tt})
