use Rattle.std.proofs.Common.{◌≡◌, ℤ, to_z, of_z, w64, subst, drop, ◌∷◌, Option, Some, None, ◌∙◌, rules}
use Rattle.std.proofs.Math.Facts.{to_z-of_z}
use Rattle.siri_records.specs.declared.item.Item.{Item}
use Rattle.siri_records.specs.declared.key.Key.{Key}
use Rattle.siri_store.specs.Asked.{asked_stamps}
use Rattle.siri_store.specs.CrossWalk.{led, led_by}
use Rattle.siri_store.specs.First.{looked_until}
use Rattle.siri_store.specs.Held.{counted}
use Rattle.siri_store.specs.Visits.{shown_if}
use Rattle.siri_store.specs.Walk.{shown_at}
use Rattle.siri_store.proofs.Leads.{found_counted, found_last, lead_on, passed_counted, passed_fewer, passed_looked, passed_same}
use Rattle.siri_store.proofs.first.next_visit.Goals as goal

pub returns-in-Some-clause-looked : goal.returns-in-Some-clause-looked
returns-in-Some-clause-looked c =
    let same = to_z-of_z {w = w64} {z = c.args.from} c.ranges.from in
    let z : ℤ = to_z w64 (of_z w64 c.args.from) in
    let es = c.args.entries.now in
    let so_far = c.loop-stamp.invariant in
    let p = shown_at c.args.topic.now c.args.moment in
    let x : Key × Item = (c.in-Some.entry.0.now, c.in-Some.entry.1.now.value) in
    let all = asked_stamps c.args.topic.now c.args.stamps.now in
    let old = asked_stamps c.args.topic.now c.loop-stamp.stamps in
    let new = asked_stamps c.args.topic.now c.next_asked.new.stamps in
    let next : old ≡ c.in_ok-stamp.stamp.now ∷ new = c.in_ok-stamp.ensures.next in
    let found : Some x ≡ shown_if c.args.topic.now c.args.moment (led_by z es c.in_ok-stamp.stamp.now) =
    search (rules, c.led_if_shown.ensures, c.in-Some.is) in
    subst (λ from. led from es new ≡ drop (looked_until p 1 (led from es all)) (led from es all)) same
    (found_last c.args.topic.now c.args.moment z es all old new c.in_ok-stamp.stamp.now next
    so_far.leads c.args.counter.now c.loop-stamp.counter c.count.new.self so_far.counter so_far.fewer c.count.ensures.step x found so_far.looked)

pub returns-in-Some-clause-counter : goal.returns-in-Some-clause-counter
returns-in-Some-clause-counter c =
    let same = to_z-of_z {w = w64} {z = c.args.from} c.ranges.from in
    let z : ℤ = to_z w64 (of_z w64 c.args.from) in
    let es = c.args.entries.now in
    let so_far = c.loop-stamp.invariant in
    let p = shown_at c.args.topic.now c.args.moment in
    let x : Key × Item = (c.in-Some.entry.0.now, c.in-Some.entry.1.now.value) in
    let all = asked_stamps c.args.topic.now c.args.stamps.now in
    let old = asked_stamps c.args.topic.now c.loop-stamp.stamps in
    let new = asked_stamps c.args.topic.now c.next_asked.new.stamps in
    let next : old ≡ c.in_ok-stamp.stamp.now ∷ new = c.in_ok-stamp.ensures.next in
    let found : Some x ≡ shown_if c.args.topic.now c.args.moment (led_by z es c.in_ok-stamp.stamp.now) =
    search (rules, c.led_if_shown.ensures, c.in-Some.is) in
    subst (λ from. c.count.new.self ≡ counted c.args.counter.now (looked_until p 1 (led from es all))) same
    (found_counted c.args.topic.now c.args.moment z es all old new c.in_ok-stamp.stamp.now next
    so_far.leads c.args.counter.now c.loop-stamp.counter c.count.new.self so_far.counter so_far.fewer c.count.ensures.step x found)

pub loop-stamp-preserved : goal.loop-stamp-preserved
loop-stamp-preserved c =
    let z : ℤ = to_z w64 (of_z w64 c.args.from) in
    let es = c.args.entries.now in
    let so_far = c.loop-stamp.invariant in
    let topic = c.args.topic.now in
    let all = asked_stamps topic c.args.stamps.now in
    let old = asked_stamps topic c.loop-stamp.stamps in
    let new = asked_stamps topic c.next_asked.new.stamps in
    let stamp = c.in_ok-stamp.stamp.now in
    let none : ◌≡◌ {A = Option (Key × Item)} None (shown_if topic c.args.moment (led_by z es stamp)) =
    search (rules, c.in_default.ensures) in
    let next : old ≡ stamp ∷ new = c.in_ok-stamp.ensures.next in
    let start = c.args.counter.now in
    let before = c.loop-stamp.counter in
    let after = c.count.new.self in
    record {
      same = passed_same topic c.args.moment z es all old new stamp next so_far.leads start before after so_far.counter so_far.fewer c.count.ensures.step none ∙ so_far.same;
      looked = passed_looked topic c.args.moment z es all old new stamp next so_far.leads start before after so_far.counter so_far.fewer c.count.ensures.step none ∙ so_far.looked;
      counter = passed_counted topic c.args.moment z es all old new stamp next so_far.leads start before after so_far.counter so_far.fewer c.count.ensures.step none;
      fewer = passed_fewer topic c.args.moment z es all old new stamp next so_far.leads start before after so_far.counter so_far.fewer c.count.ensures.step none;
      leads = lead_on topic c.args.moment z es all old new stamp next so_far.leads;
    }
