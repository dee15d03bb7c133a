-- What stands beside an end after a turn that ended the run.
use Rattle.std.specs.Prelude.{◌⊎◌, ℕ, Ok}
use Rattle.siri_outside.specs.OutsideCalls.{GivesMoment}
use Rattle.siri_outside.specs.Wires.{Accepts, WireState}
use Rattle.siri_runs.specs.Calls.{Call, Outside, Told}
use Rattle.siri_runs.specs.Turns.{FailsToAccept, FailsToTell, Running}
use Rattle.siri_runs.specs.declared.network_error.NetworkError.{NetworkError}

-- a connection was accepted, the clock told a moment, which the end was given, and this was left then
pub record LeavesBegun {State : Type 0} (given : ℕ → State → State)
    (Leaves : State → Told WireState → Told WireState → Type 0) (from : Running State) (to : Outside) : Type 0 where
  pub wire : Told WireState
  pub moment : ℕ
  pub accepts : Call Accepts (Ok (tt {0})) from.outside.wire wire
  pub tells : Call GivesMoment (Ok moment) from.outside.clock to.clock
  pub leaves : Leaves (given moment from.state) wire to.wire

-- no connection was answered: none was accepted, or the clock told no moment
abbrev pub AnswersNone : Outside → Outside → Type 0
AnswersNone from to = (error : NetworkError) × (FailsToAccept error from to ⊎ FailsToTell error from to)

-- no connection was answered, and it is as the turn before left it; or the turn was begun
abbrev pub LeavesTurn : {State : Type 0} → (given : ℕ → State → State) → (Stays : State → Type 0)
    → (Leaves : State → Told WireState → Told WireState → Type 0) → Running State → Outside → Type 0
LeavesTurn given Stays Leaves from to = (Stays from.state × AnswersNone from.outside to) ⊎ LeavesBegun given Leaves from to
