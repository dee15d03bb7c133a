use Rattle.std.proofs.Common.{◌≡◌, ◌+◌, List, take, sym, rules, arith, ap, subst, ◌∙◌}
use Rattle.siri_records.proofs.Placed.{take_past}
use Rattle.siri_subs.specs.declared.entry.Row.{Row}
use Rattle.siri_subs.specs.Lent.{entry_of}
use Rattle.siri_responder.specs.Known.{Known}
use Rattle.siri_model.specs.Followed.{look_bound}
use Rattle.siri_subscriptions.specs.declared.course.Course.{Course}
use Rattle.siri_subscriptions.specs.Courses.{kept_rows}
use Rattle.siri_subscriptions.specs.Due.{AreDue}
use Rattle.siri_subscriptions.specs.Looked.{followed_row}
use Rattle.siri_subscriptions.specs.Sends.{at_of, table_sends}
use Rattle.siri_subscriptions.proofs.Bounds.{bounds_more, bounds_within}
use Rattle.siri_subscriptions.proofs.Planned.{plan_more, taken_all}
use Rattle.siri_subscriptions.proofs.settling.prepare.Goals as goal
use Rattle.siri_subscriptions.proofs.settling.prepare.Goals.{else-loop-place-test, then-loop-place-test+in_default}

pub loop-place-preserved : goal.loop-place-preserved
loop-place-preserved c =
    let found = c.in_ok-find_due.ensures in
    let start = c.args.responder.now in
    let row = entry_of c.in-Some.entry in
    let one = ap (λ (k : Known). look_bound k.moment k.held (followed_row k.marks row)) c.loop-place.invariant.rest in
    let more = bounds_more start.moment start.held start.marks c.args.table.now c.loop-place.place row
    (sym c.in-Some.ensures) in
    record {
      plan =
          plan_more start c.loop-place.responder c.args.table.now c.loop-place.place row
          c.loop-place.outs _ c.loop-place.dues.items _ c.in_ok-find_due.field-0
          c.loop-place.invariant.rest
          (sym c.in-Some.ensures) found.due found.outs c.in_ok-push.ensures.items c.loop-place.invariant.plan;
      touched = found.touched;
      rest = search rules;
      risen = omega (arith, found.risen);
      bound = omega (arith, found.bound, one, more, c.loop-place.invariant.bound);
    }

pub returns-in_err-find_due-clause-bound : goal.returns-in_err-find_due-clause-bound
returns-in_err-find_due-clause-bound c =
    let start = c.args.responder.now in
    let row = entry_of c.in-Some.entry in
    let one = ap (λ (k : Known). look_bound k.moment k.held (followed_row k.marks row)) c.loop-place.invariant.rest in
    let more = bounds_more start.moment start.held start.marks c.args.table.now c.loop-place.place row
    (sym c.in-Some.ensures) in
    let within = bounds_within start.moment start.held start.marks c.args.table.now (c.loop-place.place + 1) in
    omega (arith, c.in_err-find_due.ensures.bound, one, more, within, c.loop-place.invariant.bound)

pub returns-in_err-push-clause-bound : goal.returns-in_err-push-clause-bound
returns-in_err-push-clause-bound c =
    let start = c.args.responder.now in
    let row = entry_of c.in-Some.entry in
    let one = ap (λ (k : Known). look_bound k.moment k.held (followed_row k.marks row)) c.loop-place.invariant.rest in
    let more = bounds_more start.moment start.held start.marks c.args.table.now c.loop-place.place row
    (sym c.in-Some.ensures) in
    let within = bounds_within start.moment start.held start.marks c.args.table.now (c.loop-place.place + 1) in
    omega (arith, c.in_ok-find_due.ensures.bound, one, more, within, c.loop-place.invariant.bound)

pub returns-clause-outs : goal.returns-clause-outs
returns-clause-outs c =
    let start = c.args.responder.now in
    let all : take c.loop-place.place c.args.table.now ≡ c.args.table.now =
    elim c.loop-place-test.branch [
      | else-loop-place-test w ↦
          taken_all c.args.table.now c.loop-place.place (omega (arith, w.loop-place-test.false, c.len-place-end.ensures.value))
      | then-loop-place-test+in_default w ↦ take_past c.args.table.now c.loop-place.place (sym w.in_default.ensures)
    ] in
    c.loop-place.invariant.plan.sends
    ∙ ap (λ (rows : List (Row Course)). table_sends (at_of start) start.held (kept_rows rows)) all

pub returns-clause-dues : goal.returns-clause-dues
returns-clause-dues c =
    let start = c.args.responder.now in
    let all : take c.loop-place.place c.args.table.now ≡ c.args.table.now =
    elim c.loop-place-test.branch [
      | else-loop-place-test w ↦
          taken_all c.args.table.now c.loop-place.place (omega (arith, w.loop-place-test.false, c.len-place-end.ensures.value))
      | then-loop-place-test+in_default w ↦ take_past c.args.table.now c.loop-place.place (sym w.in_default.ensures)
    ] in
    let next = start.marks.number + 1 in
    subst (λ (rows : List (Row Course)). AreDue start.moment start.held next rows c.loop-place.dues.items) all
    c.loop-place.invariant.plan.are_due

pub returns-clause-bound : goal.returns-clause-bound
returns-clause-bound c =
    let start = c.args.responder.now in
    let within = bounds_within start.moment start.held start.marks c.args.table.now c.loop-place.place in
    omega (arith, within, c.loop-place.invariant.bound)
