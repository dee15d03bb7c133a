use Rattle.std.proofs.Common.{◌∙◌, ap, sym, arith, ◌++◌, append-nil}
use Rattle.siri_records.specs.Keyed.{KeyChange, deref_entry}
use Rattle.siri_records.specs.Order.{key_cmp}
use Rattle.siri_records.proofs.Placed.{below_length}
use Rattle.siri_change.proofs.Walks.{above_from, above_past}
use Rattle.siri_subscriptions.proofs.Merged.{none_left, found_next, item_last, item_next, item_tied, written}
use Rattle.siri_subscriptions.proofs.touched.merged.Goals as goal

pub returns-in-None-None : goal.returns-in-None-None
returns-in-None-None c =
    let left = none_left c.args.found.now c.args.items.now c.loop-list.place c.loop-list.next c.in-None-None.ensures.one c.in-None-None.ensures'.entry in
    sym (append-nil _) ∙ (ap (λ l. c.loop-list.list ++ l) (sym left) ∙ c.loop-list.invariant)

pub loop-list-preserved-in-None-Some : goal.loop-list-preserved-in-None-Some
loop-list-preserved-in-None-Some c =
    let e = deref_entry c.in-None-Some.entry in
    written _ _ _ _ _ _ _ c.in_ok-push-in-None-Some.ensures.ok c.in_ok-addition-in-None-Some.ensures
    (item_last c.args.found.now c.args.items.now c.loop-list.place c.loop-list.next e c.in-None-Some.ensures'.ordered c.in-None-Some.ensures.one c.in-None-Some.ensures'.entry)
    c.loop-list.invariant

pub overflow_add-place : goal.overflow_add-place
overflow_add-place c =
    let lt = below_length c.args.found.now c.loop-list.place c.in-Some-None.one.now (sym c.in-Some-None.ensures.one) in
    omega (arith, lt, c.at.ensures.small)

pub loop-list-smaller-in-Some-None : goal.loop-list-smaller-in-Some-None
loop-list-smaller-in-Some-None c =
    let lt = below_length c.args.found.now c.loop-list.place c.in-Some-None.one.now (sym c.in-Some-None.ensures.one) in
    omega (arith, lt)

pub loop-list-preserved-in-Some-None : goal.loop-list-preserved-in-Some-None
loop-list-preserved-in-Some-None c =
    let one = c.in-Some-None.one.now in
    written _ _ _ _ _ _ _ c.in_ok-push-in-Some-None.ensures.ok c.in_ok-copy-in-Some-None.ensures
    (found_next c.args.found.now c.args.items.now c.loop-list.place c.loop-list.next one c.in-Some-None.ensures.one
    (above_past one.0 c.args.items.now c.loop-list.next c.in-Some-None.ensures'.entry))
    c.loop-list.invariant

pub overflow_add-place-in-Less : goal.overflow_add-place-in-Less
overflow_add-place-in-Less c =
    let lt = below_length c.args.found.now c.loop-list.place c.in-Some-Some.one.now (sym c.in-Some-Some.ensures.one) in
    omega (arith, lt, c.at.ensures.small)

pub loop-list-smaller-in-Less : goal.loop-list-smaller-in-Less
loop-list-smaller-in-Less c =
    let lt = below_length c.args.found.now c.loop-list.place c.in-Some-Some.one.now (sym c.in-Some-Some.ensures.one) in
    omega (arith, lt)

pub loop-list-preserved-in-Less : goal.loop-list-preserved-in-Less
loop-list-preserved-in-Less c =
    let one = c.in-Some-Some.one.now in
    let e = deref_entry c.in-Some-Some.entry in
    let below = sym (ap (λ (v : KeyChange). key_cmp v.0 e.0) c.one.view_is) ∙ sym c.in-Less.ensures in
    written _ _ _ _ _ _ _ c.in_ok-push-in-Less.ensures.ok c.in_ok-copy-in-Less.ensures
    (found_next c.args.found.now c.args.items.now c.loop-list.place c.loop-list.next one c.in-Some-Some.ensures.one
    (above_from one.0 c.args.items.now c.loop-list.next e c.in-Some-Some.ensures'.ordered c.in-Some-Some.ensures'.entry below))
    c.loop-list.invariant

pub loop-list-preserved-in-Greater : goal.loop-list-preserved-in-Greater
loop-list-preserved-in-Greater c =
    let e = deref_entry c.in-Some-Some.entry in
    written _ _ _ _ _ _ _ c.in_ok-push-in-Greater.ensures.ok c.in_ok-addition-in-Greater.ensures
    (item_next c.args.found.now c.args.items.now c.loop-list.place c.loop-list.next c.in-Some-Some.one.now e c.in-Some-Some.ensures'.ordered
    c.in-Some-Some.ensures.one c.in-Some-Some.ensures'.entry
    (sym (ap (λ (v : KeyChange). key_cmp v.0 e.0) c.one.view_is) ∙ sym c.in-Greater.ensures))
    c.loop-list.invariant

pub overflow_add-place-in-Equal : goal.overflow_add-place-in-Equal
overflow_add-place-in-Equal c =
    let lt = below_length c.args.found.now c.loop-list.place c.in-Some-Some.one.now (sym c.in-Some-Some.ensures.one) in
    omega (arith, lt, c.at.ensures.small)

pub loop-list-preserved : goal.loop-list-preserved
loop-list-preserved c =
    let e = deref_entry c.in-Some-Some.entry in
    written _ _ _ _ _ _ _ c.in_ok-push-in-Equal.ensures.ok c.in_ok-addition-in-Equal.ensures
    (item_tied c.args.found.now c.args.items.now c.loop-list.place c.loop-list.next c.in-Some-Some.one.now e c.in-Some-Some.ensures'.ordered
    c.in-Some-Some.ensures.one c.in-Some-Some.ensures'.entry
    (sym (ap (λ (v : KeyChange). key_cmp v.0 e.0) c.one.view_is) ∙ sym c.in-Equal.ensures))
    c.loop-list.invariant
