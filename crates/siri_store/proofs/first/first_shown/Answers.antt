use Rattle.std.proofs.Common.{◌≡◌, ◌≤◌, ◌+◌, ◌++◌, [], ◌∷◌, ℤ, to_z, of_z, w64, subst, ap, take, ◌∙◌, arith}
use Rattle.std.proofs.Math.Facts.{to_z-of_z}
use Rattle.std.proofs.lemmas.Bool.Decides.{nat_tests}
use Rattle.std.proofs.lemmas.List.{map_push}
use Rattle.std.specs.declared.alloc.Global.{Global}
use Rattle.std.specs.declared.rc.Rc.{Rc}
use Rattle.siri_records.specs.declared.item.Item.{Item}
use Rattle.siri_records.specs.declared.key.Key.{Key}
use Rattle.siri_records.specs.Keyed.{entries_view}
use Rattle.siri_store.specs.Asked.{asked_stamps}
use Rattle.siri_store.specs.CrossWalk.{led}
use Rattle.siri_store.specs.First.{looked_until}
use Rattle.siri_store.specs.Held.{counted}
use Rattle.siri_store.specs.Walk.{shown_at, shown_entries}
use Rattle.siri_store.proofs.Firsts.{more_counted, none_counted, one_found, still_fewer, within}
use Rattle.siri_store.proofs.first.first_shown.Goals as goal

pub returns-in_default-clause-steps : goal.returns-in_default-clause-steps
returns-in_default-clause-steps c =
    let p = shown_at c.args.topic.now c.args.moment in
    let same = to_z-of_z {w = w64} {z = c.args.from} c.ranges.from in
    let z : ℤ = to_z w64 (of_z w64 c.args.from) in
    let all = led z c.args.items.now (asked_stamps c.args.topic.now c.args.stamps) in
    let old = led z c.args.items.now (asked_stamps c.args.topic.now c.loop-left.stamps) in
    let new = led z c.args.items.now (asked_stamps c.args.topic.now c.next_visit.new.stamps) in
    let left = c.loop-left.left in
    let so_far = c.loop-left.invariant in
    let some : left ≡ 0 → ⊥ = λ e. grind (arith, nat_tests, e, c.if-left-eq0.false) in
    subst (λ from. c.next_visit.new.counter ≡ counted c.args.counter.now (looked_until p c.args.most (led from c.args.items.now (asked_stamps c.args.topic.now c.args.stamps)))) same
    (none_counted p c.args.most left all old c.args.counter.now c.loop-left.counter so_far.counter so_far.fewer some c.next_visit.new.counter c.in_default.ensures.counter c.in_default.ensures.lent.0)

pub returns-in_default-clause-at_most : goal.returns-in_default-clause-at_most
returns-in_default-clause-at_most c =
    let p = shown_at c.args.topic.now c.args.moment in
    let same = to_z-of_z {w = w64} {z = c.args.from} c.ranges.from in
    let z : ℤ = to_z w64 (of_z w64 c.args.from) in
    let all = led z c.args.items.now (asked_stamps c.args.topic.now c.args.stamps) in
    let old = led z c.args.items.now (asked_stamps c.args.topic.now c.loop-left.stamps) in
    let new = led z c.args.items.now (asked_stamps c.args.topic.now c.next_visit.new.stamps) in
    let left = c.loop-left.left in
    let so_far = c.loop-left.invariant in
    let some : left ≡ 0 → ⊥ = λ e. grind (arith, nat_tests, e, c.if-left-eq0.false) in
    subst (λ from. c.next_visit.new.counter ≤ c.args.counter.now + looked_until p c.args.most (led from c.args.items.now (asked_stamps c.args.topic.now c.args.stamps))) same
    (within p c.args.most left all old c.args.counter.now c.loop-left.counter so_far.counter so_far.fewer some c.next_visit.new.counter c.in_default.ensures.counter new c.in_default.ensures.looked)

pub returns-in_err-shared-clause-at_most : goal.returns-in_err-shared-clause-at_most
returns-in_err-shared-clause-at_most c =
    let p = shown_at c.args.topic.now c.args.moment in
    let same = to_z-of_z {w = w64} {z = c.args.from} c.ranges.from in
    let z : ℤ = to_z w64 (of_z w64 c.args.from) in
    let all = led z c.args.items.now (asked_stamps c.args.topic.now c.args.stamps) in
    let old = led z c.args.items.now (asked_stamps c.args.topic.now c.loop-left.stamps) in
    let new = led z c.args.items.now (asked_stamps c.args.topic.now c.next_visit.new.stamps) in
    let left = c.loop-left.left in
    let so_far = c.loop-left.invariant in
    let some : left ≡ 0 → ⊥ = λ e. grind (arith, nat_tests, e, c.if-left-eq0.false) in
    subst (λ from. c.next_visit.new.counter ≤ c.args.counter.now + looked_until p c.args.most (led from c.args.items.now (asked_stamps c.args.topic.now c.args.stamps))) same
    (within p c.args.most left all old c.args.counter.now c.loop-left.counter so_far.counter so_far.fewer some c.next_visit.new.counter c.in-Some.ensures.counter new c.in-Some.ensures.looked)

pub returns-in_err-push-clause-at_most : goal.returns-in_err-push-clause-at_most
returns-in_err-push-clause-at_most c =
    let p = shown_at c.args.topic.now c.args.moment in
    let same = to_z-of_z {w = w64} {z = c.args.from} c.ranges.from in
    let z : ℤ = to_z w64 (of_z w64 c.args.from) in
    let all = led z c.args.items.now (asked_stamps c.args.topic.now c.args.stamps) in
    let old = led z c.args.items.now (asked_stamps c.args.topic.now c.loop-left.stamps) in
    let new = led z c.args.items.now (asked_stamps c.args.topic.now c.next_visit.new.stamps) in
    let left = c.loop-left.left in
    let so_far = c.loop-left.invariant in
    let some : left ≡ 0 → ⊥ = λ e. grind (arith, nat_tests, e, c.if-left-eq0.false) in
    subst (λ from. c.next_visit.new.counter ≤ c.args.counter.now + looked_until p c.args.most (led from c.args.items.now (asked_stamps c.args.topic.now c.args.stamps))) same
    (within p c.args.most left all old c.args.counter.now c.loop-left.counter so_far.counter so_far.fewer some c.next_visit.new.counter c.in-Some.ensures.counter new c.in-Some.ensures.looked)

pub loop-left-preserved : goal.loop-left-preserved
loop-left-preserved c =
    let p = shown_at c.args.topic.now c.args.moment in
    let same = to_z-of_z {w = w64} {z = c.args.from} c.ranges.from in
    let z : ℤ = to_z w64 (of_z w64 c.args.from) in
    let all = led z c.args.items.now (asked_stamps c.args.topic.now c.args.stamps) in
    let old = led z c.args.items.now (asked_stamps c.args.topic.now c.loop-left.stamps) in
    let new = led z c.args.items.now (asked_stamps c.args.topic.now c.next_visit.new.stamps) in
    let left = c.loop-left.left in
    let so_far = c.loop-left.invariant in
    let some : left ≡ 0 → ⊥ = λ e. grind (arith, nat_tests, e, c.if-left-eq0.false) in
    let e : Key × Item = (c.in-Some.entry.0.now, c.in-Some.entry.1.now.value) in
    let x : Key × Rc Item Global = c.in_ok-shared.field-0 in
    let copied : (x.0, x.1.value) ≡ e = λ i. (c.in_ok-shared.ensures.0 i, c.in_ok-shared.ensures.1 i) in
    let found = entries_view c.loop-left.found.items in
    let view : Key × Rc Item Global → Key × Item = λ y. (y.0, y.1.value) in
    let one : entries_view c.push.new.self.items ≡ found ++ e ∷ [] =
    ap entries_view c.in_ok-push.ensures.items
    ∙ (map_push view c.loop-left.found.items x ∙ ap (λ (y : Key × Item). found ++ y ∷ []) copied) in
    record {
      found = one_found found (entries_view c.push.new.self.items) (shown_entries c.args.topic.now c.args.moment old)
          (shown_entries c.args.topic.now c.args.moment new)
          (take c.args.most (shown_entries c.args.topic.now c.args.moment all)) e left some one c.in-Some.ensures.lent so_far.found;
      counter = more_counted p c.args.most left all old c.args.counter.now c.loop-left.counter so_far.counter so_far.fewer some c.next_visit.new.counter c.in-Some.ensures.counter new
          c.in-Some.ensures.looked;
      fewer = still_fewer p c.args.most left all old c.args.counter.now c.loop-left.counter so_far.counter so_far.fewer some c.next_visit.new.counter c.in-Some.ensures.counter new
          c.in-Some.ensures.looked;
      leads = c.in-Some.ensures.leads;
    }
