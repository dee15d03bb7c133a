use Rattle.std.proofs.Common.{◌+◌, List, map, ap, sym, subst, ◌∙◌}
use Rattle.siri_subs.specs.declared.entry.Row.{Row}
use Rattle.siri_responder.specs.Known.{Known}
use Rattle.siri_subscriptions.specs.declared.course.Course.{Course}
use Rattle.siri_subscriptions.specs.Courses.{KnowLevels}
use Rattle.siri_subscriptions.specs.Settled.{settled_row}
use Rattle.siri_subscriptions.proofs.Rows.{know_settled}
use Rattle.siri_subscriptions.proofs.settling.settle.Goals as goal

pub returns-clause-levels : goal.returns-clause-levels
returns-clause-levels c =
    let known = c.args.responder.now in
    let rows = c.args.table.now in
    let is = c.carry_out.ensures ∙ ap (λ (k : Known). map (settled_row k.moment k.held (k.marks.number + 1)) rows) c.in_ok-outs.ensures.rest in
    subst (λ (table : List (Row Course)). KnowLevels known.moment known.held table) (sym is) (know_settled known.moment known.held (known.marks.number + 1) rows)
