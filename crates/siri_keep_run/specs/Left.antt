-- What a run of `keep` leaves on a shelf that tells its rows, at every moment and at whatever status.
use Rattle.std.specs.Prelude.{◌≡◌, ◌⊎◌, ◌≤◌, ℕ, List, [], ◌∷◌, ◌++◌, Option, Some, Ok}
use Rattle.std.specs.List.{AllByRecursion}
use Rattle.siri_outside.specs.OutsideCalls.{ClockState, GivesMoment}
use Rattle.siri_outside.specs.Wires.{Accepts, WireState}
use Rattle.siri_base.specs.declared.status.Status.{Status}
use Rattle.siri_model.specs.History.{History}
use Rattle.siri_outside.specs.Rows.{Rows}
use Rattle.siri_outside.specs.Shelves.{ShelfState, open_called}
use Rattle.siri_keeping.specs.Keeps.{Keeps}
use Rattle.siri_keep.specs.Serving.{AnswersOk, KeepsAnswered}
use Rattle.siri_runs.specs.Calls.{Call, Outside, Told}
use Rattle.siri_runs.specs.Left.{AnswersNone}
use Rattle.siri_runs.specs.Turns.{Running}
use Rattle.siri_runs.specs.producers.Opening.{Opens}
use Rattle.siri_keep_run.specs.Opening.{AreAsOpened, BeginsWith, FailsToOpen, begun}
use Rattle.siri_keep_run.specs.Serving.{Keeping, KeepsInTurn, KeepsTurns, KeepsWhole, given, history_now}

-- ---- how far a run came

-- it opened over a shelf, and made so many turns
pub record SoFar (name listen file : List ℕ) (count : ℕ) (before : ShelfState) (from : Outside) (at : Running Keeping) : Type 0 where
  pub start : ℕ
  pub moment : ℕ
  pub open_ : Outside
  pub opens : Opens listen start moment from open_
  pub shelf : Option ShelfState
  pub first : History
  pub begins : BeginsWith name file start moment (Some before) shelf first
  pub made : ℕ
  pub most : made ≤ count
  pub turns : KeepsTurns name made (begun first shelf open_) at

-- the next turn was begun: a connection was accepted, and the clock told the moment that the producer was given
pub record Begun (at : Running Keeping) (moment : ℕ) (wire : Told WireState) : Type 0 where
  pub clock : Told ClockState
  pub accepts : Call Accepts (Ok (tt {0})) at.outside.wire wire
  pub tells : Call GivesMoment (Ok moment) at.outside.clock clock

-- ---- at every moment

-- rows keep the history of so many turns, with a front of the next one after it, or with all of it
abbrev pub KeepsSoFar : (name : List ℕ) → Running Keeping → Rows → Type 0
KeepsSoFar name at rows =
    Keeps name rows at.state.history
    ⊎ ((moment : ℕ) × (wire : Told WireState) × (after : Told WireState) × Begun at moment wire
    × (KeepsInTurn name (given moment at.state) wire.tells rows ⊎ KeepsWhole name (given moment at.state) wire after rows))

-- rows are as they were before the run; or they keep the history that it opened with; or that of so many of its turns, with a front
-- of the next
abbrev pub IsLeft : (name listen file : List ℕ) → (count : ℕ) → Outside → ShelfState → Rows → Type 0
IsLeft name listen file count from before rows =
    (rows ≡ before.rows)
    ⊎ (((start : ℕ) × (moment : ℕ) × (open_ : Outside) × Opens listen start moment from open_ × AreAsOpened name start moment before.rows rows)
    ⊎ ((at : Running Keeping) × SoFar name listen file count before from at × KeepsSoFar name at rows))

-- Nothing was done to the shelf; or this file wasn't opened, and nothing else was done; or the run opened it once, and no other file,
-- and each of the rows that a stop may have left since, and the present ones, are so.
abbrev pub KeepTrail : (name listen file : List ℕ) → (count : ℕ) → Outside → ShelfState → ShelfState → Type 0
KeepTrail name listen file count from before after =
    (after ≡ before)
    ⊎ ((after ≡ open_called file before)
    ⊎ ((after.named ≡ before.named ++ file ∷ [])
    × AllByRecursion (IsLeft name listen file count from before) after.trail × IsLeft name listen file count from before after.rows))

-- ---- what is answered is kept

-- no connection was answered since
abbrev pub AnswersNoMore : Outside → Outside → Type 0
AnswersNoMore from to = (to ≡ from) ⊎ AnswersNone from to

-- the next turn was begun; where what was written to its connection begins a response of status 200, over a wire that tells its
-- bytes, rows keep the history with that connection's message taken after it, or with all of the turn
pub record AnswersNext (name : List ℕ) (last : Running Keeping) (to : Outside) (rows : Rows) : Type 0 where
  pub moment : ℕ
  pub wire : Told WireState
  pub begun_ : Begun last moment wire
  pub answered : (x y : WireState) → wire.tells ≡ Some x → to.wire.tells ≡ Some y → AnswersOk x y
      → KeepsAnswered name x rows (history_now (given moment last.state)) ⊎ KeepsWhole name (given moment last.state) wire to.wire rows

-- The run made so many turns, and the rows keep their history, in which each connection's message was taken; and where it ended in a
-- turn that it began after them, the message of that connection, too, if it was answered 200.
pub record KeepsAnswers (name listen file : List ℕ) (count : ℕ) (from to : Outside) (before after : ShelfState) : Type 0 where
  pub last : Running Keeping
  pub so_far : SoFar name listen file count before from last
  pub keeps : KeepsSoFar name last after.rows
  pub ends : AnswersNoMore last.outside to ⊎ AnswersNext name last to after.rows

-- the same of each run: one that opened nothing answered nothing
abbrev pub KeepAnswered : (name listen file : List ℕ) → (count : ℕ) → Status → (from to : Outside) → ShelfState → ShelfState → Type 0
KeepAnswered name listen file count end from to before after =
    FailsToOpen name listen file end (Some before) (Some after) from to ⊎ KeepsAnswers name listen file count from to before after
