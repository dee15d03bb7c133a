use Rattle.std.proofs.Common.{◌≡◌, ◌-◌, ◌≤◌, drop, length, true}
use Rattle.siri_store.specs.Asked.{asked_stamps}
use Rattle.siri_store.specs.CrossWalk.{led}
use Rattle.siri_store.specs.First.{looked_until}
use Rattle.siri_store.specs.Held.{counted}
use Rattle.siri_store.specs.Visits.{all_lead}
use Rattle.siri_store.specs.Walk.{shown_at, shown_entries}
use Rattle.siri_store.proofs.first.next_visit.Given as goal

-- none of the visits that were passed over is shown, and each was counted
abbrev pub invariant-loop-stamp : goal.invariant-loop-stamp
invariant-loop-stamp l =
    let p = shown_at l.topic l.moment in
    let first = led l.from l.entries (asked_stamps l.topic l.fn.stamps) in
    let left = led l.from l.entries (asked_stamps l.topic l.stamps) in
    record {
      same : shown_entries l.topic l.moment left ≡ shown_entries l.topic l.moment first;
      looked : drop (looked_until p 1 left) left ≡ drop (looked_until p 1 first) first;
      counter : l.counter ≡ counted l.fn.counter (looked_until p 1 first - looked_until p 1 left);
      fewer : looked_until p 1 left ≤ looked_until p 1 first;
      leads : all_lead l.from l.entries (asked_stamps l.topic l.stamps) ≡ true;
    }

abbrev pub decreases-loop-stamp : goal.decreases-loop-stamp
decreases-loop-stamp l = length l.stamps
