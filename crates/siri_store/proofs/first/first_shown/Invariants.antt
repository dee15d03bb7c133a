use Rattle.std.proofs.Common.{◌≡◌, ◌-◌, ◌≤◌, ◌++◌, take, true}
use Rattle.siri_records.specs.Keyed.{entries_view}
use Rattle.siri_store.specs.Asked.{asked_stamps}
use Rattle.siri_store.specs.CrossWalk.{led}
use Rattle.siri_store.specs.First.{looked_until}
use Rattle.siri_store.specs.Held.{counted}
use Rattle.siri_store.specs.Visits.{all_lead}
use Rattle.siri_store.specs.Walk.{shown_at, shown_entries}
use Rattle.siri_store.proofs.first.first_shown.Given as goal

-- those found so far and those that are left are the first so many, and each visit that was looked at was counted
abbrev pub invariant-loop-left : goal.invariant-loop-left
invariant-loop-left l =
    let p = shown_at l.topic l.moment in
    let all = led l.from l.items (asked_stamps l.topic l.fn.stamps) in
    let left = led l.from l.items (asked_stamps l.topic l.stamps) in
    record {
      found : entries_view l.found.items ++ take l.left (shown_entries l.topic l.moment left) ≡ take l.most (shown_entries l.topic l.moment all);
      counter : l.counter ≡ counted l.fn.counter (looked_until p l.most all - looked_until p l.left left);
      fewer : looked_until p l.left left ≤ looked_until p l.most all;
      leads : all_lead l.from l.items (asked_stamps l.topic l.stamps) ≡ true;
    }

abbrev pub decreases-loop-left : goal.decreases-loop-left
decreases-loop-left l = l.left
