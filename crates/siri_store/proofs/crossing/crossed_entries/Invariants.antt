use Rattle.std.proofs.Common.{◌≡◌, ◌++◌, length}
use Rattle.siri_records.specs.Keyed.{entries_view}
use Rattle.siri_store.specs.Asked.{asked_stamps}
use Rattle.siri_store.specs.CrossWalk.{led}
use Rattle.siri_store.specs.Held.{counted}
use Rattle.siri_store.proofs.crossing.crossed_entries.Given as goal

-- those found so far and those of the stamps that are left are all, and those found were counted
abbrev pub invariant-loop-entry : goal.invariant-loop-entry
invariant-loop-entry l = record {
  found : entries_view l.found.items ++ led l.from l.items (asked_stamps l.topic l.stamps) ≡ led l.from l.items (asked_stamps l.topic l.fn.stamps);
  counter : l.counter ≡ counted l.fn.counter (length (entries_view l.found.items));
}

abbrev pub decreases-loop-entry : goal.decreases-loop-entry
decreases-loop-entry l = length l.stamps
