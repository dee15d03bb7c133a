-- The turns of a run over the network, of whichever end: a connection is accepted, the clock tells a moment, and the connection is
-- answered.
use Rattle.std.specs.Prelude.{◌≡◌, ◌⊎◌, ℕ, zero, suc, ◌<◌, Ok}
use Rattle.siri_outside.specs.OutsideCalls.{GivesMoment}
use Rattle.siri_outside.specs.Wires.{Accepts, WireState}
use Rattle.siri_runs.specs.Calls.{Call, Fails, Outside, Told}
use Rattle.siri_runs.specs.Errors.{clock_error, wire_error}
use Rattle.siri_runs.specs.declared.network_error.NetworkError.{NetworkError}
use Rattle.siri_runs.specs.declared.network_error.NetworkError.TheVariants as errors

-- an end at a moment of its run, and the outside
pub record Running (State : Type 0) : Type 0 where
  pub state : State
  pub outside : Outside

abbrev pub running : {State : Type 0} → State → Outside → Running State
running state outside = record { state = state; outside = outside }

-- one turn, of an end that is given a moment so and answers a connection over a wire so
pub record Turn {State : Type 0} (given : ℕ → State → State)
    (Answers : State → Told WireState → State → Told WireState → Type 0) (from to : Running State) : Type 0 where
  pub wire : Told WireState
  pub moment : ℕ
  pub accepts : Call Accepts (Ok (tt {0})) from.outside.wire wire
  pub tells : Call GivesMoment (Ok moment) from.outside.clock to.outside.clock
  pub answers : Answers (given moment from.state) wire to.state to.outside.wire
  pub keeper : to.outside.keeper ≡ from.outside.keeper

-- so many turns, one after the other
unfoldable pub Turns : {State : Type 0} → (Does : Running State → Running State → Type 0) → ℕ → Running State → Running State → Type 0
Turns Does zero from to = to ≡ from
Turns Does (suc count) from to = (mid : Running _) × Turns Does count from mid × Does mid to

-- ---- how a turn ends the run

-- the wire failed to accept
pub record FailsToAccept (error : NetworkError) (from to : Outside) : Type 0 where
  pub accepts : Fails {T = Unit {0}} Accepts wire_error error from.wire to.wire
  pub rest : to ≡ record from { wire = to.wire }

-- a connection was accepted, and the clock failed
pub record FailsToTell (error : NetworkError) (from to : Outside) : Type 0 where
  pub accepts : Call Accepts (Ok (tt {0})) from.wire to.wire
  pub tells : Fails GivesMoment clock_error error from.clock to.clock
  pub keeper : to.keeper ≡ from.keeper

-- a connection was accepted and the clock told a moment, which the end can't be given
pub record FailsToGive {State : Type 0} (Refuses : NetworkError → State → Type 0) (error : NetworkError)
    (from : Running State) (to : Outside) : Type 0 where
  pub moment : ℕ
  pub accepts : Call Accepts (Ok (tt {0})) from.outside.wire to.wire
  pub tells : Call GivesMoment (Ok moment) from.outside.clock to.clock
  pub refuses : Refuses error from.state
  pub keeper : to.keeper ≡ from.outside.keeper

-- it was given it, and answered the connection in part
pub record StopsAnswering {State : Type 0} (given : ℕ → State → State)
    (Stops : NetworkError → State → Told WireState → Told WireState → Type 0) (error : NetworkError)
    (from : Running State) (to : Outside) : Type 0 where
  pub wire : Told WireState
  pub moment : ℕ
  pub accepts : Call Accepts (Ok (tt {0})) from.outside.wire wire
  pub tells : Call GivesMoment (Ok moment) from.outside.clock to.clock
  pub stops : Stops error (given moment from.state) wire to.wire
  pub keeper : to.keeper ≡ from.outside.keeper

abbrev pub TurnFails : {State : Type 0} → (given : ℕ → State → State) → (Refuses : NetworkError → State → Type 0)
    → (Stops : NetworkError → State → Told WireState → Told WireState → Type 0) → NetworkError → Running State → Outside → Type 0
TurnFails given Refuses Stops error from to =
    FailsToAccept error from.outside to
    ⊎ (FailsToTell error from.outside to ⊎ (FailsToGive Refuses error from to ⊎ StopsAnswering given Stops error from to))

-- an end that can be given any moment
abbrev pub NeverRefuses : {State : Type 0} → NetworkError → State → Type 0
NeverRefuses error state = ⊥

-- an end that answers in part for want of memory alone
abbrev pub StopsForMemory : {State : Type 0} → (State → Told WireState → Told WireState → Type 0)
    → NetworkError → State → Told WireState → Told WireState → Type 0
StopsForMemory Stops error state before after = (error ≡ errors.OutOfMemory) × Stops state before after

-- of so many turns some were made, and the next one ended the run
pub record TurnsFail {State : Type 0} (Does : Running State → Running State → Type 0)
    (Ends : NetworkError → Running State → Outside → Type 0) (count : ℕ) (error : NetworkError) (from : Running State)
    (to : Outside) : Type 0 where
  pub made : ℕ
  pub fewer : made < count
  pub last : Running State
  pub turns : Turns Does made from last
  pub ends : Ends error last to
