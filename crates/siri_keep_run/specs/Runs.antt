-- A run of `keep`, whole: a run of `serve` that begins with the history which the rows of the shelf make, in the place of its start
-- alone, and leaves its own on the shelf.
use Rattle.std.specs.Prelude.{◌≡◌, ℕ, List, Bool, true, false, Option, Some}
use Rattle.siri_outside.specs.OutsideCalls.{WhereTold}
use Rattle.siri_base.specs.declared.status.Status.{Status}
use Rattle.siri_base.specs.declared.status.Status.TheVariants as status
use Rattle.siri_lines.specs.Ends.{Bytes}
use Rattle.siri_outside.specs.Shelves.{ShelfState}
use Rattle.siri_keeping.specs.Keeps.{Keeps}
use Rattle.siri_runs.specs.Calls.{Outside}
use Rattle.siri_runs.specs.Run.{Procedure, Run}
use Rattle.siri_runs.specs.Summaries.{summary_text}
use Rattle.siri_keep_run.specs.Opening.{BeginsKeeping, FailsToOpen}
use Rattle.siri_keep_run.specs.Serving.{Keeping, LeavesAtTurn, turning}

-- a shelf ends a run with one of these
abbrev pub is_of_shelf : Status → Bool
is_of_shelf status.ShelfFault = true
is_of_shelf (status.BadShelf why) = true
is_of_shelf other = false

-- Under this name, at this address, over the shelf of this file, which tells this before and after it. After every turn it keeps the history of all of
-- them, and is as the last one left it.
abbrev pub keep_procedure : (name listen file : List ℕ) → (before after : Option ShelfState) → Procedure Keeping
keep_procedure name listen file before after = record {
  Opens = BeginsKeeping name listen file before;
  FailsToOpen = λ end from to. FailsToOpen name listen file end before after from to;
  turning = turning name;
  Leaves = λ keeping. WhereTold before after (λ s t. Keeps name t.rows keeping.history) × WhereTold before after (λ s t. keeping.shelf ≡ Some t);
  LeavesInTurn = LeavesAtTurn name after;
  text = λ keeping. summary_text keeping.tally;
  is_own = is_of_shelf;
}

-- What it does to the outside and to the shelf over so many connections, what it writes, and how it ends. Want of memory and a failure
-- of the shelf leave the first of its steps.
abbrev pub KeepRun : (name listen file : List ℕ) → ℕ → (before after : Option ShelfState) → Outside → Outside → Bytes → Bytes → Status → Type 0
KeepRun name listen file count before after from to old new end = Run (keep_procedure name listen file before after) count from to old new end

-- the statuses of a run in which nothing was written
abbrev pub EndsKeeping : Status → Type 0
EndsKeeping status.WireFault = Unit {0}
EndsKeeping status.ClockFault = Unit {0}
EndsKeeping status.KeeperFault = Unit {0}
EndsKeeping status.ShelfFault = Unit {0}
EndsKeeping (status.BadShelf why) = Unit {0}
EndsKeeping other = ⊥

-- the run did its work whole, or memory was wanting, or its shelf ended it
abbrev pub EndsWholeOrByShelf : Status → Type 0
EndsWholeOrByShelf status.Done = Unit {0}
EndsWholeOrByShelf status.OutOfMemory = Unit {0}
EndsWholeOrByShelf status.ShelfFault = Unit {0}
EndsWholeOrByShelf (status.BadShelf why) = Unit {0}
EndsWholeOrByShelf other = ⊥
