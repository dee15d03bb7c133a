use Rattle.std.proofs.Common.{◌≡◌, ◌∷◌, ◌++◌, w64, length, subst}
use Rattle.std.proofs.Math.Facts.{to_z-of_z}
use Rattle.siri_records.specs.declared.key.Key.{Key}
use Rattle.siri_records.specs.declared.item.Item.{Item}
use Rattle.siri_records.specs.Keyed.{entries_view}
use Rattle.siri_store.specs.Asked.{asked_stamps}
use Rattle.siri_store.specs.CrossWalk.{led}
use Rattle.siri_store.proofs.Crossed.{most_counted}
use Rattle.siri_store.proofs.Gathered.{found_fewer}
use Rattle.siri_store.proofs.crossing.crossed_entries.Goals as goal

pub returns-in_err-push-clause-at_most : goal.returns-in_err-push-clause-at_most
returns-in_err-push-clause-at_most c =
    let same = to_z-of_z {w = w64} {z = c.args.from} c.ranges.from in
    let es = c.args.items.now in
    let e : Key × Item = (c.in-Some.entry.0.now, c.in-Some.entry.1.now.value) in
    let before = entries_view c.loop-entry.found.items in
    let all = asked_stamps c.args.topic.now c.args.stamps in
    let old = asked_stamps c.args.topic.now c.loop-entry.stamps in
    let new = asked_stamps c.args.topic.now c.next_asked_crossed.new.stamps in
    let found = subst (λ z. before ++ led z es old ≡ led z es all) same c.loop-entry.invariant.found in
    let lent = subst (λ z. led z es old ≡ e ∷ led z es new) same c.in-Some.ensures.lent in
    most_counted c.args.counter.now (length before) c.loop-entry.counter c.next_asked_crossed.new.counter
    (length (led c.args.from es all)) c.loop-entry.invariant.counter c.in-Some.ensures.counter
    (found_fewer before (led c.args.from es old) (led c.args.from es new) (led c.args.from es all) e lent found)
