use Rattle.std.proofs.Common.{◌≡◌, ◌≤◌, length}
use Rattle.siri_store.specs.Asked.{asked_stamps}
use Rattle.siri_store.specs.CrossWalk.{led}
use Rattle.siri_store.proofs.crossing.next_asked_crossed.Given as goal

-- none of the stamps that were passed over leads
abbrev pub invariant-loop-stamp : goal.invariant-loop-stamp
invariant-loop-stamp l = record {
  same : led l.from l.entries (asked_stamps l.topic l.stamps) ≡ led l.from l.entries (asked_stamps l.topic l.fn.stamps);
  counter : l.counter ≡ l.fn.counter;
  onward : length l.stamps ≤ length l.fn.stamps;
}

abbrev pub decreases-loop-stamp : goal.decreases-loop-stamp
decreases-loop-stamp l = length l.stamps
