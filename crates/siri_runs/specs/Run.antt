-- One run over the network, of whichever command. It opens; its end takes its turns; what that comes to is written. A command says
-- what each of these is, and here stands what a run of it does, by the status that it ends with.
use Rattle.std.specs.Prelude.{◌≡◌, ◌⊎◌, ℕ, List, Bool, true, false}
use Rattle.std.specs.Io.KnownBytes.{Appends}
use Rattle.siri_outside.specs.Wires.{WireState}
use Rattle.siri_base.specs.declared.status.Status.{Status}
use Rattle.siri_base.specs.declared.status.Status.TheVariants as status
use Rattle.siri_lines.specs.Ends.{AppendsFront, Bytes}
use Rattle.siri_runs.specs.Calls.{Outside, Told}
use Rattle.siri_runs.specs.Errors.{status_of}
use Rattle.siri_runs.specs.Turns.{Running, Turn, TurnFails, Turns, TurnsFail, running}
use Rattle.siri_runs.specs.declared.network_error.NetworkError.{NetworkError}

-- ---- what a command says

-- how its end takes a turn: it is given a moment, or can't be; it answers a connection whole, or in part
pub record Turning (State : Type 0) : Type 1 where
  pub given : ℕ → State → State
  pub Refuses : NetworkError → State → Type 0
  pub Answers : State → Told WireState → State → Told WireState → Type 0
  pub Stops : NetworkError → State → Told WireState → Told WireState → Type 0

-- how its run opens, so that its end runs, or how it ends there; how its end takes its turns; what stands beside it after the last
-- one, or where one after this moment of the run ended it; and the text that is written. Beside want of memory and a fault of the
-- wire, the clock, the keeper or the sink, these statuses are its own.
pub record Procedure (State : Type 0) : Type 1 where
  pub Opens : Outside → Running State → Type 0
  pub FailsToOpen : Status → Outside → Outside → Type 0
  pub turning : Turning State
  pub Leaves : State → Type 0
  pub LeavesInTurn : Running State → Outside → Type 0
  pub text : State → List ℕ
  pub is_own : Status → Bool

-- ---- its turns

abbrev pub MakesTurn : {State : Type 0} → Turning State → Running State → Running State → Type 0
MakesTurn turning from to = Turn turning.given turning.Answers from to

abbrev pub MakesTurns : {State : Type 0} → Turning State → ℕ → Running State → Running State → Type 0
MakesTurns turning count from to = Turns (MakesTurn turning) count from to

-- a turn that ended the run
abbrev pub EndsAtTurn : {State : Type 0} → Turning State → NetworkError → Running State → Outside → Type 0
EndsAtTurn turning error from to = TurnFails turning.given turning.Refuses turning.Stops error from to

abbrev pub EndsInTurns : {State : Type 0} → Turning State → ℕ → NetworkError → Running State → Outside → Type 0
EndsInTurns turning count error from to = TurnsFail (MakesTurn turning) (EndsAtTurn turning) count error from to

-- ---- how far it comes

-- it opened, and made every turn: it came to this text
pub record Completes {State : Type 0} (procedure : Procedure State) (count : ℕ) (text : List ℕ) (from to : Outside) : Type 0 where
  pub first : Running State
  pub opens : procedure.Opens from first
  pub end : State
  pub turns : MakesTurns procedure.turning count first (running end to)
  pub leaves : procedure.Leaves end
  pub text_is : text ≡ procedure.text end

-- it opened, and a turn ended it
pub record FailsInTurns {State : Type 0} (procedure : Procedure State) (count : ℕ) (end : Status) (from to : Outside) : Type 0 where
  pub first : Running State
  pub opens : procedure.Opens from first
  pub error : NetworkError
  pub end_is : end ≡ status_of error
  pub fails : EndsInTurns procedure.turning count error first to
  pub leaves : procedure.LeavesInTurn fails.last to

-- it ended before every turn was made
abbrev pub EndsBefore : {State : Type 0} → Procedure State → ℕ → Status → Outside → Outside → Type 0
EndsBefore procedure count end from to = procedure.FailsToOpen end from to ⊎ FailsInTurns procedure count end from to

-- it ended so by an error
pub record ByError (Fails : NetworkError → Outside → Outside → Type 0) (end : Status) (from to : Outside) : Type 0 where
  pub error : NetworkError
  pub end_is : end ≡ status_of error
  pub fails : Fails error from to

-- ---- the run

-- every turn was made, and this much of its text was written
pub record Tells {State : Type 0} (Writes : Bytes → Bytes → List ℕ → Type 0) (procedure : Procedure State) (count : ℕ) (from to : Outside)
    (old new : Bytes) : Type 0 where
  pub text : List ℕ
  pub completes : Completes procedure count text from to
  pub writes : Writes old new text

-- it ended before, and nothing was written
abbrev pub EndsUnwritten : {State : Type 0} → Procedure State → ℕ → Status → Outside → Outside → Bytes → Bytes → Type 0
EndsUnwritten procedure count end from to old new = EndsBefore procedure count end from to × (new ≡ old)

-- it may end so only by a status of its own
abbrev pub Only : Bool → Type 0 → Type 0
Only true Ends = Ends
Only false Ends = ⊥

-- What a run over so many connections does, by the status that it ends with. Want of memory leaves the first of its steps.
abbrev pub Run : {State : Type 0} → Procedure State → ℕ → Outside → Outside → Bytes → Bytes → Status → Type 0
Run procedure count from to old new status.Done = Tells Appends procedure count from to old new
Run procedure count from to old new status.WriteFault = Tells AppendsFront procedure count from to old new
Run procedure count from to old new status.OutOfMemory =
    Tells AppendsFront procedure count from to old new ⊎ EndsUnwritten procedure count status.OutOfMemory from to old new
Run procedure count from to old new status.WireFault = EndsUnwritten procedure count status.WireFault from to old new
Run procedure count from to old new status.ClockFault = EndsUnwritten procedure count status.ClockFault from to old new
Run procedure count from to old new status.KeeperFault = EndsUnwritten procedure count status.KeeperFault from to old new
Run procedure count from to old new other = Only (procedure.is_own other) (EndsUnwritten procedure count other from to old new)
