-- The turns of a run, of an end as it is: it is given the clock's moment, it takes the turn of the connection that is there, and the
-- turn is over. Whatever a command says of its end follows from these.
use Rattle.std.specs.Prelude.{◌≡◌, ◌⊎◌, ◌+◌, ℕ, Ok, Err}
use Rattle.siri_outside.specs.OutsideCalls.{GivesMoment}
use Rattle.siri_outside.specs.Wires.{Accepts, WireState}
use Rattle.siri_outside.specs.declared.errors.OutsideError.{OutsideError}
use Rattle.siri_outside.specs.Shelves.{CountsFault}
use Rattle.siri_http.specs.Requests.{Meaning}
use Rattle.siri_http.specs.declared.tally.Tally.{Tally}
use Rattle.siri_ends.specs.At.{At, Goes, Holding, at_of}
use Rattle.siri_ends.specs.Occasions.{AfterTurn, OfConnection, OfMoment}
use Rattle.siri_ends.specs.TurnsTaken.{LeavesBeside, StopsTurn, TakesTurn}
use Rattle.siri_ends.specs.declared.taker.Taker.{Ghosts as TakerGhosts}
use Rattle.siri_runs.specs.Calls.{Call, Outside, Told}
use Rattle.siri_runs.specs.Errors.{shelf_error}
use Rattle.siri_runs.specs.Turns.{FailsToAccept, FailsToTell, Running}
use Rattle.siri_runs.specs.declared.network_error.NetworkError.{NetworkError}

-- an end in its run: what stands beside it, what was counted, and how many turns there were
pub record InRun (Own Beside : Type 0) : Type 0 where
  pub own : Own
  pub beside : Beside
  pub tally : Tally
  pub made : ℕ

abbrev pub in_run : {Own Beside : Type 0} → Own → Beside → Tally → ℕ → InRun Own Beside
in_run own beside tally made = record { own = own; beside = beside; tally = tally; made = made }

-- ---- what its calls do

-- it was given a moment
pub record IsGiven {Own Beside R M G : Type 0} (of : TakerGhosts Own Beside R M G) (now : ℕ) (old : Own) (was : Beside) (new : Own)
    (is : Beside) : Type 0 where
  pub keeps : of.identity new ≡ of.identity old
  pub stands : (s : of.State) → of.stands old s → of.stands new (of.given now s)
  pub holds : (s : of.State) → of.stands old s → of.holds old was s → of.holds new is (of.given now s)
  pub may : of.may_leave old (OfMoment now) was is

-- it took the turn of the connection that was there, by what it stood for, and left what stands beside it so
abbrev pub TakesOf : {Own Beside R M G : Type 0} → (of : TakerGhosts Own Beside R M G) → Meaning → G → (old : At Own) → (was : Beside)
    → (new : At Own) → (is : Beside) → Type 0
TakesOf of asks target old was new is =
    Goes of.identity of.stands (λ identity. Holding of.holds (TakesTurn asks (of.posts target) (of.manner identity)) old.state was new.state is) old new

-- what it left beside it, whatever came of that
abbrev pub LeavesOf : {Own Beside R M G : Type 0} → (of : TakerGhosts Own Beside R M G) → Meaning → G → (old : Own) → (was is : Beside)
    → (before after : Told WireState) → Type 0
LeavesOf of asks target old was is before after =
    LeavesBeside asks (of.posts target) (of.manner (of.identity old)) (of.stands old) (is ≡ was)
    (λ asked. of.may_leave old (OfConnection asked) was is) (λ asked. of.has_left old asked was is) before.tells after.tells

-- a turn was over, the last of so many
pub record IsOver {Own Beside R M G : Type 0} (of : TakerGhosts Own Beside R M G) (made : ℕ) (old : Own) (was : Beside) (new : Own)
    (is : Beside) : Type 0 where
  pub keeps : of.identity new ≡ of.identity old
  pub stands : (s : of.State) → of.stands old s → of.stands new s
  pub holds : (s : of.State) → of.stands old s → of.holds old was s → of.holds new is s
  pub may : of.may_leave old AfterTurn was is
  pub ended : of.has_ended old made was is

-- ---- one turn

-- of the connection that is there, at this moment
pub record TurnOf {Own Beside R M G : Type 0} (of : TakerGhosts Own Beside R M G) (asks : Meaning) (target : G) (moment : ℕ)
    (from : InRun Own Beside) (before : Told WireState) (to : InRun Own Beside) (after : Told WireState) : Type 0 where
  pub later : Own
  pub between : Beside
  pub given : IsGiven of moment from.own from.beside later between
  pub taken : Own
  pub left : Beside
  pub takes : TakesOf of asks target (at_of later from.tally before.tells before.faults) between
      (at_of taken to.tally after.tells after.faults) left
  pub leaves : LeavesOf of asks target later between left before after
  pub over : IsOver of to.made taken left to.own to.beside
  pub made : to.made ≡ from.made + 1

-- a connection was accepted, the clock told a moment, and so the end took its turn
pub record RunsTurn {Own Beside R M G : Type 0} (of : TakerGhosts Own Beside R M G) (asks : Meaning) (target : G)
    (from to : Running (InRun Own Beside)) : Type 0 where
  pub wire : Told WireState
  pub moment : ℕ
  pub accepts : Call Accepts (Ok (tt {0})) from.outside.wire wire
  pub tells : Call GivesMoment (Ok moment) from.outside.clock to.outside.clock
  pub turn : TurnOf of asks target moment from.state wire to.state to.outside.wire
  pub keeper : to.outside.keeper ≡ from.outside.keeper

-- ---- a turn that ended the run

-- what stands beside the end failed, once more by now, or memory was wanting and it didn't
abbrev pub FailsBeside : {Own Beside R M G : Type 0} → (of : TakerGhosts Own Beside R M G) → OutsideError → (was is : Beside) → Type 0
FailsBeside of why was is = CountsFault {T = Unit {0}} (of.faults was) (of.faults is) (Err why)

-- it couldn't be given the moment
pub record IsNotGiven {Own Beside R M G : Type 0} (of : TakerGhosts Own Beside R M G) (why : OutsideError) (moment : ℕ)
    (from : InRun Own Beside) (last : Beside) (before after : Told WireState) : Type 0 where
  pub same : after ≡ before
  pub refuses : (s : of.State) → of.stands from.own s → of.refuses why s
  pub may : of.may_leave from.own (OfMoment moment) from.beside last
  pub counted : FailsBeside of why from.beside last

-- it took the turn of the connection in part
pub record TakesSome {Own Beside R M G : Type 0} (of : TakerGhosts Own Beside R M G) (asks : Meaning) (target : G) (why : OutsideError)
    (moment : ℕ) (from : InRun Own Beside) (last : Beside) (before after : Told WireState) : Type 0 where
  pub later : Own
  pub between : Beside
  pub given : IsGiven of moment from.own from.beside later between
  pub stops : (s : of.State) → of.stands later s
      → StopsTurn asks (of.posts target) (of.manner (of.identity later)) (at_of s from.tally before.tells before.faults) after.tells
  pub leaves : LeavesOf of asks target later between last before after
  pub counted : FailsBeside of why between last

-- it took it, and couldn't end the turn
pub record IsNotOver {Own Beside R M G : Type 0} (of : TakerGhosts Own Beside R M G) (asks : Meaning) (target : G) (why : OutsideError)
    (moment : ℕ) (from : InRun Own Beside) (last : Beside) (before after : Told WireState) : Type 0 where
  pub later : Own
  pub between : Beside
  pub given : IsGiven of moment from.own from.beside later between
  pub taken : Own
  pub left : Beside
  pub tally : Tally
  pub takes : TakesOf of asks target (at_of later from.tally before.tells before.faults) between
      (at_of taken tally after.tells after.faults) left
  pub leaves : LeavesOf of asks target later between left before after
  pub may : of.may_leave taken AfterTurn left last
  pub counted : FailsBeside of why left last

-- a connection was accepted, and the clock told a moment, and then a call of the end ended the run
pub record StopsWithin {Own Beside R M G : Type 0} (of : TakerGhosts Own Beside R M G) (asks : Meaning) (target : G) (last : Beside)
    (error : NetworkError) (from : Running (InRun Own Beside)) (to : Outside) : Type 0 where
  pub wire : Told WireState
  pub moment : ℕ
  pub accepts : Call Accepts (Ok (tt {0})) from.outside.wire wire
  pub tells : Call GivesMoment (Ok moment) from.outside.clock to.clock
  pub keeper : to.keeper ≡ from.outside.keeper
  pub why : OutsideError
  pub error_is : error ≡ shelf_error why
  pub stops : IsNotGiven of why moment from.state last wire to.wire
      ⊎ (TakesSome of asks target why moment from.state last wire to.wire
      ⊎ IsNotOver of asks target why moment from.state last wire to.wire)

-- or the wire or the clock did, and what stands beside the end is as it was; this stands there then
abbrev pub StopsTurns : {Own Beside R M G : Type 0} → (of : TakerGhosts Own Beside R M G) → Meaning → G → (last : Beside) → NetworkError
    → Running (InRun Own Beside) → Outside → Type 0
StopsTurns of asks target last error from to =
    ((last ≡ from.state.beside) × (FailsToAccept error from.outside to ⊎ FailsToTell error from.outside to))
    ⊎ StopsWithin of asks target last error from to
