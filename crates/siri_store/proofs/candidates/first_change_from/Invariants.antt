use Rattle.std.proofs.Common.{◌≡◌, ◌≤◌, ◌-◌, true, false, take, drop, length}
use Rattle.std.specs.List.{All}
use Rattle.siri_store.specs.Sides.{is_below}
use Rattle.siri_store.proofs.candidates.first_change_from.Given as goal

-- all before the lower place are below, and none from the higher one on
abbrev pub invariant-loop-low : goal.invariant-loop-low
invariant-loop-low l = record {
  below : All (λ change. is_below l.topic l.least change.0 ≡ true) (take l.low l.changes);
  above : All (λ change. is_below l.topic l.least change.0 ≡ false) (drop l.high l.changes);
  rising : l.low ≤ l.high;
  within : l.high ≤ length l.changes;
}

abbrev pub decreases-loop-low : goal.decreases-loop-low
decreases-loop-low l = l.high - l.low
