use Rattle.std.proofs.Common.{◌≡◌, ◌≤◌, length}
use Rattle.siri_store.specs.Asked.{asked_stamps}
use Rattle.siri_store.proofs.crossing.next_asked.Given as goal

-- none of the stamps that were passed over is asked for
abbrev pub invariant-loop-stamp : goal.invariant-loop-stamp
invariant-loop-stamp l = record {
  same : asked_stamps l.topic l.stamps ≡ asked_stamps l.topic l.fn.stamps;
  onward : length l.stamps ≤ length l.fn.stamps;
}

abbrev pub decreases-loop-stamp : goal.decreases-loop-stamp
decreases-loop-stamp l = length l.stamps
