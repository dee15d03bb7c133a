-- A run of `consume`, whole.
use Rattle.std.specs.Prelude.{◌≡◌, ◌⊎◌, ℕ, List, ◌++◌, ⊤}
use Rattle.siri_base.specs.declared.status.Status.{Status}
use Rattle.siri_base.specs.declared.status.Status.TheVariants as status
use Rattle.siri_lines.specs.Ends.{Bytes}
use Rattle.siri_wire.specs.declared.wanted.Wanted.{Wanted}
use Rattle.siri_runs.specs.Calls.{Outside}
use Rattle.siri_runs.specs.Run.{Procedure, Run}
use Rattle.siri_runs.specs.Summaries.{summary_text}
use Rattle.siri_runs.specs.Turns.{Running}
use Rattle.siri_runs.specs.consumers.Consumption.{ConsumerAsks, ConsumerAsksSome, Consumption, Target, turning}
use Rattle.siri_runs.specs.consumers.Opening.{FailsToOpen, Opens, opened}
use Rattle.siri_runs.specs.consumers.Reading.{is_of_source}
use Rattle.siri_runs.specs.consumers.Views.{views_text}

-- it opened and asked, and such a consumer runs
pub record BeginsConsuming (name listen : List ℕ) (target : Target) (input : Bytes) (from : Outside) (first : Running Consumption) : Type 0 where
  pub start : ℕ
  pub list : List Wanted
  pub moment : ℕ
  pub open_ : Outside
  pub opens : Opens name listen input start list moment from open_
  pub asks : ConsumerAsks target list (opened name listen start moment) open_ first

-- it opened, and there was no memory to ask
pub record FailsToAsk (name listen : List ℕ) (target : Target) (input : Bytes) (end : Status) (from to : Outside) : Type 0 where
  pub end_is : end ≡ status.OutOfMemory
  pub start : ℕ
  pub list : List Wanted
  pub moment : ℕ
  pub open_ : Outside
  pub opens : Opens name listen input start list moment from open_
  pub asks : ConsumerAsksSome target list (opened name listen start moment) open_ to

-- its views, and the summary
abbrev pub end_text : Consumption → List ℕ
end_text end = views_text end.consumer ++ summary_text end.tally

-- under this name, at this address, of the producer at that one, where its source brings this
abbrev pub consume_procedure : (name listen : List ℕ) → Target → (input left : Bytes) → Procedure Consumption
consume_procedure name listen target input left = record {
  Opens = BeginsConsuming name listen target input;
  FailsToOpen = λ end from to.
      FailsToOpen name listen input left end from to ⊎ FailsToAsk name listen target input end from to;
  turning = turning target;
  Leaves = λ end. ⊤;
  LeavesInTurn = λ last to. ⊤;
  text = end_text;
  is_own = is_of_source;
}

-- what it does to the outside over so many connections, what it writes, and how it ends
abbrev pub ConsumeRun : (name listen : List ℕ) → Target → ℕ → (input left : Bytes) → Outside → Outside → Bytes → Bytes → Status → Type 0
ConsumeRun name listen target count input left from to old new end =
    Run (consume_procedure name listen target input left) count from to old new end

-- the statuses of a run in which nothing was written
abbrev pub EndsConsuming : Status → Type 0
EndsConsuming (status.Script n why) = Unit {0}
EndsConsuming (status.Limit n) = Unit {0}
EndsConsuming status.ReadFault = Unit {0}
EndsConsuming status.WireFault = Unit {0}
EndsConsuming status.ClockFault = Unit {0}
EndsConsuming status.KeeperFault = Unit {0}
EndsConsuming other = ⊥
