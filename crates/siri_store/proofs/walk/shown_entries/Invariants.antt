use Rattle.std.proofs.Common.{◌≡◌, ◌++◌, ◌-◌}
use Rattle.siri_store.specs.Walk.{Walked, entries_to_lend}
use Rattle.siri_store.proofs.walk.shown_entries.Given as goal

-- those found so far, and those that the walk has still to lend, are all
abbrev pub invariant-loop-entry : goal.invariant-loop-entry
invariant-loop-entry l = record {
  found : l.found ++ entries_to_lend l.walk ≡ entries_to_lend l.fn.walk;
  walked : Walked l.fn.walk l.walk;
}

abbrev pub decreases-loop-entry : goal.decreases-loop-entry
decreases-loop-entry l = l.walk.end - l.walk.place
