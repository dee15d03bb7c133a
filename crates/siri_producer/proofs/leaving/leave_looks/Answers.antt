use Rattle.std.proofs.Common.{sym, arith}
use Rattle.siri_producer.proofs.Left.{all_left, as_long, left_next, none_there}
use Rattle.siri_producer.proofs.leaving.leave_looks.Goals as goal

pub loop-place-preserved : goal.loop-place-preserved
loop-place-preserved c =
    rw c.leave_look.ensures
    (left_next c.args.marks.now.log c.args.table.now c.loop-place.place c.loop-place.table _ c.loop-place.invariant
    (sym c.in-Some.ensures.value))

pub returns : goal.returns
returns c = all_left c.args.marks.now.log c.args.table.now c.loop-place.place c.loop-place.table (omega arith) c.loop-place.invariant

pub returns-in_default : goal.returns-in_default
returns-in_default c =
    let long = as_long c.args.marks.now.log c.args.table.now c.loop-place.place c.loop-place.table c.loop-place.invariant in
    absurd (none_there c.loop-place.table c.loop-place.place (omega (arith, long)) c.in_default.ensures.value)
