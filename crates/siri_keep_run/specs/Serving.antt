-- A producer over a shelf that serves connections (EN 15531-2 for what is said, RFC 9112 for how).
use Rattle.std.specs.Prelude.{◌≡◌, ◌⊎◌, ◌+◌, ◌*◌, ℕ, List, [], ◌∷◌, ◌++◌, Option, Some}
use Rattle.siri_outside.specs.OutsideCalls.{WhereTold}
use Rattle.siri_outside.specs.Wires.{WireState}
use Rattle.siri_http.specs.Connections.{OnConnection}
use Rattle.siri_http.specs.Requests.{Asks, post_alone}
use Rattle.siri_http.specs.declared.asked.Asked.{Asked}
use Rattle.siri_http.specs.declared.tally.Tally.{Tally}
use Rattle.siri_model.specs.History.{Clock, History}
use Rattle.siri_producer.specs.Known.{StandsFor}
use Rattle.siri_ends.specs.At.{At, at_of}
use Rattle.siri_ends.specs.Responses.{taking}
use Rattle.siri_outside.specs.Rows.{Rows}
use Rattle.siri_outside.specs.Shelves.{ShelfState}
use Rattle.siri_keeping.specs.Keeping.{AddsOnly}
use Rattle.siri_keeping.specs.Keeps.{Keeps}
use Rattle.siri_keep.specs.Calls.{HasLiveAlone, Holds, KeepsFront}
use Rattle.siri_keep.specs.Serving.{AnswersOk, KeepsAnswered, ServesKept, ServesKeptSome, message_kept, turns_to_clean}
use Rattle.siri_keep.specs.declared.kept.Kept.{Kept}
use Rattle.siri_runs.specs.Calls.{Outside, Told}
use Rattle.siri_runs.specs.Left.{LeavesTurn}
use Rattle.siri_runs.specs.Run.{MakesTurn, MakesTurns, Turning}
use Rattle.siri_runs.specs.Turns.{Running}
use Rattle.siri_runs.specs.declared.network_error.NetworkError.{NetworkError}
use Rattle.siri_runs.specs.declared.network_error.NetworkError.TheVariants as errors

-- As the last turn left them: the producer's history, what was counted, how many turns there were, and the shelf, where it tells
-- its rows. Beside them what the producer was given since.
pub record Keeping : Type 0 where
  pub history : History
  pub tally : Tally
  pub turns : ℕ
  pub shelf : Option ShelfState
  pub since : History

-- the producer is given a moment
abbrev pub given : ℕ → Keeping → Keeping
given moment keeping = record keeping { since = keeping.since ++ Clock moment ∷ [] }

-- the history that the producer has now
abbrev pub history_now : Keeping → History
history_now keeping = keeping.history ++ keeping.since

-- the same over a wire, as an end of an exchange: within a turn, and after one
abbrev pub end_at : Keeping → Told WireState → At History
end_at keeping wire = at_of (history_now keeping) keeping.tally wire.tells wire.faults

abbrev pub end_left : Keeping → Told WireState → At History
end_left keeping wire = at_of keeping.history keeping.tally wire.tells wire.faults

-- ---- what a turn leaves on the shelf

-- this is taken of the connection that is there: its message, where it brings one that can be kept; or nothing
abbrev pub TakenOf : Option WireState → History → Type 0
TakenOf wire steps =
    (steps ≡ [])
    ⊎ ((asked : Asked) × (read : Option WireState) × OnConnection (Asks post_alone (Some asked)) wire read
    × (steps ≡ taking (message_kept asked)))

-- rows keep the history that the last turn left, with a front after it of what the producer was given since, and of what it took of
-- the connection that is there
abbrev pub KeepsInTurn : (name : List ℕ) → Keeping → Option WireState → Rows → Type 0
KeepsInTurn name keeping wire rows =
    (steps : History) × TakenOf wire steps × KeepsFront name keeping.history (keeping.since ++ steps) rows

-- A turn leaves a shelf so: its rows keep the history that the turn leaves. Each of those that a stop may have left since the last
-- turn keep that one, or the history before it with a front of the turn. After each 1,000 turns the rows of items are those of
-- live items, and no others.
pub record LeavesWhole (name : List ℕ) (from to : Keeping) (wire : Option WireState) (before after : ShelfState) : Type 0 where
  pub keeps : Keeps name after.rows to.history
  pub trail : AddsOnly (λ rows. Keeps name rows to.history) (KeepsInTurn name from wire) before after
  pub cleaned : (n : ℕ) → to.turns ≡ n * turns_to_clean → HasLiveAlone to.history after.rows

-- ---- a turn

-- the connection that is there is served, whole
pub record Serves (name : List ℕ) (from : Keeping) (before : Told WireState) (to : Keeping) (after : Told WireState) : Type 0 where
  pub serves : ServesKept name (end_at from before) (end_left to after)
  pub turns : to.turns ≡ from.turns + 1
  pub since : to.since ≡ []
  pub leaves : WhereTold from.shelf to.shelf (LeavesWhole name from to before.tells)

-- it is served in part, or whole, and then dead items don't leave the shelf
abbrev pub StopsTurn : (name : List ℕ) → Keeping → Told WireState → Told WireState → Type 0
StopsTurn name from before after =
    ServesKeptSome name (end_at from before) after.tells
    ⊎ ((to : Keeping) × ServesKept name (end_at from before) (end_left to after))

-- ---- what a turn leaves on the shelf, whatever comes of it

-- rows keep a history that the connection leaves where it is served, whole
abbrev pub KeepsWhole : (name : List ℕ) → Keeping → Told WireState → Told WireState → Rows → Type 0
KeepsWhole name from before after rows =
    (h : History) × (tally : Tally) × ServesKept name (end_at from before) (at_of h tally after.tells after.faults) × Keeps name rows h

-- Each of the rows that a stop may have left since the last turn, and the present ones, keep the history before the turn with a front
-- of it, or with all of it. Where what was written to the connection that is there begins a response of status 200, over a wire that
-- tells its bytes, the present ones keep that history with the connection's message taken after it, or with all of the turn.
pub record LeavesAmid (name : List ℕ) (from : Keeping) (before after : Told WireState) (old new : ShelfState) : Type 0 where
  pub trail : AddsOnly (KeepsWhole name from before after) (KeepsInTurn name from before.tells) old new
  pub answered : (x y : WireState) → before.tells ≡ Some x → after.tells ≡ Some y → AnswersOk x y
      → KeepsAnswered name x new.rows (history_now from) ⊎ KeepsWhole name from before after new.rows

-- the same of a shelf that tells its rows
abbrev pub Leaves : (name : List ℕ) → Keeping → Told WireState → Told WireState → Option ShelfState → Type 0
Leaves name from before after shelf = WhereTold from.shelf shelf (LeavesAmid name from before after)

-- a shelf is as the last turn left it
abbrev pub Stays : Option ShelfState → Keeping → Type 0
Stays shelf keeping = WhereTold keeping.shelf shelf (λ s t. t ≡ s)

-- ---- what ends it

-- the shelf failed, or there was no memory
abbrev pub IsOwn : NetworkError → Type 0
IsOwn errors.ShelfFault = Unit {0}
IsOwn errors.OutOfMemory = Unit {0}
IsOwn other = ⊥

-- it can't be given a moment
abbrev pub Refuses : NetworkError → Keeping → Type 0
Refuses error keeping = IsOwn error

abbrev pub StopsServing : (name : List ℕ) → NetworkError → Keeping → Told WireState → Told WireState → Type 0
StopsServing name error from before after = IsOwn error × StopsTurn name from before after

-- ---- its turns

abbrev pub turning : (name : List ℕ) → Turning Keeping
turning name = record { given = given; Refuses = Refuses; Answers = Serves name; Stops = StopsServing name }

abbrev pub KeepsTurn : (name : List ℕ) → Running Keeping → Running Keeping → Type 0
KeepsTurn name from to = MakesTurn (turning name) from to

abbrev pub KeepsTurns : (name : List ℕ) → ℕ → Running Keeping → Running Keeping → Type 0
KeepsTurns name count from to = MakesTurns (turning name) count from to

-- what it left of the shelf: what the turns before left, or this, where it was begun
abbrev pub LeavesAtTurn : (name : List ℕ) → Option ShelfState → Running Keeping → Outside → Type 0
LeavesAtTurn name shelf from to = LeavesTurn given (Stays shelf) (λ state before after. Leaves name state before after shelf) from to

-- ---- with the producer and the shelf as they are

-- the shelf is as the producer left it, and what a stop may have left since the last turn keeps what came since
pub record IsSince (kept : Kept) (keeping : Keeping) (before now : ShelfState) : Type 0 where
  pub holds : Holds kept now.rows (history_now keeping)
  pub adds : AddsOnly (λ rows. Keeps kept.producer.responder.name rows keeping.history)
      (KeepsFront kept.producer.responder.name keeping.history keeping.since) before now
  pub rests : keeping.since ≡ [] → now ≡ before

-- a producer stands for whatever history it stands for, with what was counted and how many turns there were; and where the shelf tells
-- its rows, these are as the producer left them
pub record StandsOver (kept : Kept) (tally : Tally) (turns : ℕ) (shelf : Option ShelfState) (keeping : Keeping) : Type 0 where
  pub history : StandsFor kept.producer (history_now keeping)
  pub tally_is : tally ≡ keeping.tally
  pub turns_are : turns ≡ keeping.turns
  pub over : WhereTold keeping.shelf shelf (IsSince kept keeping)

-- the same between two turns
pub record RestsOver (kept : Kept) (tally : Tally) (turns : ℕ) (shelf : Option ShelfState) (keeping : Keeping) : Type 0 where
  pub stands : StandsOver kept tally turns shelf keeping
  pub rests : keeping.since ≡ []
