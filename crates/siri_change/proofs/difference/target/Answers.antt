use Rattle.std.proofs.Common.{◌∙◌, ap, sym, arith}
use Rattle.siri_records.specs.Keyed.{deref_entry}
use Rattle.siri_change.specs.Changes.{acknowledged_if_near}
use Rattle.siri_records.proofs.Placed.{below_length}
use Rattle.siri_change.proofs.Walks.{all_chosen, next_in_order, chosen_next}
use Rattle.siri_change.proofs.difference.target.Goals as goal

pub push_last-requires : goal.push_last-requires
push_last-requires c =
    next_in_order c.args.slack c.args.acknowledged.now c.args.direct.now c.loop-target.target c.loop-target.place
    (deref_entry c.in-Some.entry) c.in_ok-copy-in-Some.field-0 c.in-Some.ensures.ordered c.in-Some.ensures.entry
    c.loop-target.invariant c.in_ok-copy-in-Some.ensures

pub loop-target-smaller : goal.loop-target-smaller
loop-target-smaller c =
    let lt = below_length c.args.direct.now c.loop-target.place (deref_entry c.in-Some.entry) (sym c.in-Some.ensures.entry) in
    omega (arith, lt)

pub loop-target-preserved : goal.loop-target-preserved
loop-target-preserved c =
    let e = deref_entry c.in-Some.entry in
    let which = c.in_ok-clone-in-Some.ensures.cases
    ∙ (c.acknowledged_if_near-item.ensures ∙ ap (λ held. acknowledged_if_near c.args.slack held e.1)
    (rw c.key.ensures at c.get.ensures)) in
    chosen_next c.args.slack c.args.acknowledged.now c.args.direct.now c.loop-target.target _ c.loop-target.place e
    c.in_ok-copy-in-Some.field-0 c.in_ok-clone-in-Some.field-0.value
    c.in-Some.ensures.entry c.loop-target.invariant c.in_ok-push_last-in-Some.ensures.ok c.in_ok-copy-in-Some.ensures which

pub returns-in-None : goal.returns-in-None
returns-in-None c = all_chosen c.args.slack c.args.incremental c.args.acknowledged.now c.args.direct.now
    c.loop-target.target c.loop-target.place c.if-not-incremental.false c.loop-target.invariant c.in-None.ensures.entry
