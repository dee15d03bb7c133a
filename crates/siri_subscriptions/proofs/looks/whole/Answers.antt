use Rattle.std.proofs.Common.{sym, arith}
use Rattle.siri_records.specs.Keyed.{deref_entry}
use Rattle.siri_records.proofs.Placed.{below_length}
use Rattle.siri_subscriptions.proofs.Wholes.{whole_next, whole_done}
use Rattle.siri_subscriptions.proofs.looks.whole.Goals as goal

pub returns-in-None : goal.returns-in-None
returns-in-None c = whole_done c.args.view.now c.loop-list.list c.loop-list.place (sym c.in-None.ensures.entry) c.loop-list.invariant

pub loop-list-smaller : goal.loop-list-smaller
loop-list-smaller c =
    let lt = below_length c.args.view.now c.loop-list.place (deref_entry c.in-Some.entry) (sym c.in-Some.ensures.entry) in
    omega (arith, lt)

pub loop-list-preserved : goal.loop-list-preserved
loop-list-preserved c =
    whole_next c.args.view.now c.loop-list.list _ c.loop-list.place (deref_entry c.in-Some.entry) _ (sym c.in-Some.ensures.entry)
    c.in_ok-addition-in-Some.ensures c.in_ok-push-in-Some.ensures.ok c.loop-list.invariant
