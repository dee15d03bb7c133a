-- Calls of the outside that end a run where they fail.
use Rattle.std.specs.Prelude.{◌≡◌, ℕ, Option, Result, Ok, Err}
use Rattle.siri_outside.specs.Causes.{HasOutsideCause}
use Rattle.siri_outside.specs.OutsideCalls.{ClockState, KeeperState, WhereTold}
use Rattle.siri_outside.specs.Wires.{WireState}
use Rattle.siri_outside.specs.declared.outside.Clock.{Ghosts as ClockGhosts}
use Rattle.siri_outside.specs.declared.outside.Keeper.{Ghosts as KeeperGhosts}
use Rattle.siri_outside.specs.declared.wire.Wire.{Ghosts as WireGhosts}
use Rattle.siri_outside.specs.declared.errors.OutsideError.{OutsideError}
use Rattle.siri_outside.specs.Shelves.{after_fault}
use Rattle.siri_runs.specs.declared.network_error.NetworkError.{NetworkError}
use Rattle.siri_runs.specs.declared.network_error.NetworkError.TheVariants as errors

-- what an object of the outside tells, where it does, and how often it has failed
pub record Told (State : Type 0) : Type 0 where
  pub tells : Option State
  pub faults : ℕ

abbrev pub told_by : {State : Type 0} → Option State → ℕ → Told State
told_by tells faults = record { tells = tells; faults = faults }

-- one call: what it does to what is told; it fails only where the count of faults rises
pub record Call {State T : Type 0} (Does : State → State → Result T OutsideError → Type 0)
    (outcome : Result T OutsideError) (old new : Told State) : Type 0 where
  pub does : WhereTold old.tells new.tells (λ before after. Does before after outcome)
  pub cause : HasOutsideCause old.faults new.faults outcome

-- a call that fails ends a run with this error
pub record Fails {State T : Type 0} (Does : State → State → Result T OutsideError → Type 0)
    (error_of : OutsideError → NetworkError) (error : NetworkError) (old new : Told State) : Type 0 where
  pub failure : OutsideError
  pub error_is : error ≡ error_of failure
  pub call : Call Does (Err failure) old new

-- what comes of a call
abbrev pub Comes : {State T : Type 0} → (State → State → Result T OutsideError → Type 0) → (OutsideError → NetworkError)
    → Result T NetworkError → Told State → Told State → Type 0
Comes Does error_of (Ok value) old new = Call Does (Ok value) old new
Comes Does error_of (Err error) old new = Fails Does error_of error old new

-- the count of the shelf's faults rises by one where it failed, and nowhere else: no call of it is made again or after that, and no
-- other error hides it
abbrev pub CountsShelf : {T : Type 0} → ℕ → ℕ → Result T NetworkError → Type 0
CountsShelf before now (Err errors.ShelfFault) = now ≡ after_fault before
CountsShelf before now other = now ≡ before

-- what a run over the network is handed beside its source and sink: connections, moments, and the number of its start
pub record Outside : Type 0 where
  pub wire : Told WireState
  pub clock : Told ClockState
  pub keeper : Told KeeperState

abbrev pub outside_of : Told WireState → Told ClockState → Told KeeperState → Outside
outside_of wire clock keeper = record { wire = wire; clock = clock; keeper = keeper }

-- what a wire and a clock tell, as their types say it, with what is told of a keeper
abbrev pub outside_with : {W C : Type 0} → WireGhosts W → ClockGhosts C → W → C → Told KeeperState → Outside
outside_with of_wire of_clock wire clock keeper =
    outside_of (told_by (of_wire.tells wire) (of_wire.faults wire))
    (told_by (of_clock.tells clock) (of_clock.faults clock)) keeper

-- what a wire, a clock and a keeper tell, as their types say it
abbrev pub outside : {W C E : Type 0} → WireGhosts W → ClockGhosts C → KeeperGhosts E → W → C → E → Outside
outside of_wire of_clock of_keeper wire clock keeper =
    outside_with of_wire of_clock wire clock (told_by (of_keeper.tells keeper) (of_keeper.faults keeper))
