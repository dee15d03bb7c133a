use Rattle.std.proofs.Common.{◌+◌, sym, ◌∙◌, arith}
use Rattle.siri_subscriptions.specs.Due.{course_after}
use Rattle.siri_subscriptions.proofs.Done.{place_below, row_there, can_open_there, settle_next, none_left}
use Rattle.siri_subscriptions.proofs.settling.carry_out.Goals as goal

pub do_due-requires : goal.do_due-requires
do_due-requires c =
    let so_far = rw (c.in-Some.ensures.steps.0) at c.loop-due.invariant in
    can_open_there c.args.responder.now.moment c.args.responder.now.held (c.args.responder.now.marks.number + 1) c.args.table.now c.loop-due.place
    c.loop-due.table c.in-Some.due _ _ so_far (sym c.in-Some-at_mut.ensures.value)

pub overflow_add-place : goal.overflow_add-place
overflow_add-place c =
    let so_far = rw (c.in-Some.ensures.steps.0) at c.loop-due.invariant in
    let below = place_below c.args.responder.now.moment c.args.responder.now.held (c.args.responder.now.marks.number + 1) c.args.table.now c.loop-due.place c.loop-due.table c.in-Some.due _ so_far in
    omega (arith, below, c.requires.few)

pub loop-due-preserved : goal.loop-due-preserved
loop-due-preserved c =
    let so_far = rw (c.in-Some.ensures.steps.0) at c.loop-due.invariant in
    let done = c.do_due.ensures ∙ (λ i. course_after (c.now-now.ensures i) (c.number-next.ensures i + 1) c.in-Some.due c.in-Some-at_mut.course.now) in
    rw done
    (settle_next c.args.responder.now.moment c.args.responder.now.held (c.args.responder.now.marks.number + 1) c.args.table.now c.loop-due.place
    c.loop-due.table c.in-Some.due _ _ so_far (sym c.in-Some-at_mut.ensures.value))

pub returns : goal.returns
returns c =
    let rest = c.loop-due.due-iterator.rest in
    none_left c.args.responder.now.moment c.args.responder.now.held (c.args.responder.now.marks.number + 1) c.args.table.now c.loop-due.place c.loop-due.table
    rest.items (sym rest.ok.0 ∙ c.in-None.ensures.steps.0) c.loop-due.invariant

pub returns-in_default : goal.returns-in_default
returns-in_default c =
    let so_far = rw (c.in-Some.ensures.steps.0) at c.loop-due.invariant in
    absurd (row_there c.args.responder.now.moment c.args.responder.now.held (c.args.responder.now.marks.number + 1) c.args.table.now c.loop-due.place
    c.loop-due.table c.in-Some.due _ so_far (sym c.in_default.ensures.value))
