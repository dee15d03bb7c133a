-- How a run of `keep` opens: the number of its start is raised, it listens, the clock tells its first moment, and then the rows of its
-- file are read, which say what it begins with.
use Rattle.std.specs.Prelude.{◌≡◌, ◌≢◌, ◌⊎◌, ⊤, ◌≤◌, ℕ, List, [], ◌∷◌, ◌++◌, Option, None, Some, Result, Ok, Err}
use Rattle.std.specs.List.{AllByRecursion}
use Rattle.siri_outside.specs.OutsideCalls.{WhereTold}
use Rattle.siri_base.specs.declared.reason.ShelfReason.{ShelfReason}
use Rattle.siri_base.specs.declared.reason.ShelfReason.TheVariants as reason
use Rattle.siri_base.specs.declared.status.Status.{Status}
use Rattle.siri_base.specs.declared.status.Status.TheVariants as status
use Rattle.siri_http.specs.Tallies.{nothing_yet}
use Rattle.siri_model.specs.History.{History}
use Rattle.siri_outside.specs.Rows.{Rows}
use Rattle.siri_outside.specs.Shelves.{ShelfState, after_fault, open_called}
use Rattle.siri_keeping.specs.Keeps.{Keeps}
use Rattle.siri_keeping.specs.Opening.{SaysKept, Said, WhatIsKept, reopened, said}
use Rattle.siri_keep.specs.Calls.{Holds, IsBegun, IsEarlier}
use Rattle.siri_keep.specs.declared.errors.KeepError.{KeepError}
use Rattle.siri_keep.specs.declared.errors.KeepError.TheVariants as keep
use Rattle.siri_keep.specs.declared.kept.Kept.{Kept}
use Rattle.siri_runs.specs.Calls.{Outside}
use Rattle.siri_runs.specs.Errors.{status_of}
use Rattle.siri_runs.specs.Turns.{Running}
use Rattle.siri_runs.specs.declared.network_error.NetworkError.{NetworkError}
use Rattle.siri_runs.specs.producers.Opening as serving
use Rattle.siri_runs.specs.producers.Opening.{Opens}
use Rattle.siri_keep_run.specs.Serving.{Keeping}

-- ---- what the rows say

-- A producer of this name begins so at this start and moment, by the rows that a shelf had, which are of this name and of an
-- earlier start: they make its history. It leaves the shelf so: this file was opened, and no other; its rows keep that history, and
-- each of those that a stop may have left since the file was opened are as they were, or keep it.
pub record BeginsBy (name file : List ℕ) (start moment : ℕ) (before after : ShelfState) (h : History) : Type 0 where
  pub what : Said
  pub says : said before.rows ≡ Ok what
  pub earlier : IsEarlier name start what
  pub history : h ≡ reopened start moment what
  pub named : after.named ≡ before.named ++ file ∷ []
  pub keeps : Keeps name after.rows h
  pub trail : AllByRecursion (λ rows. (rows ≡ before.rows) ⊎ Keeps name rows h) after.trail

-- the same of a shelf that tells its rows
abbrev pub BeginsWith : (name file : List ℕ) → (start moment : ℕ) → (before after : Option ShelfState) → History → Type 0
BeginsWith name file start moment before after h = WhereTold before after (λ s t. BeginsBy name file start moment s t h)

-- the run after it: nothing was counted yet
abbrev pub begun : History → Option ShelfState → Outside → Running Keeping
begun h shelf outside =
    record { state = record { history = h; tally = nothing_yet; turns = 0; shelf = shelf; since = [] }; outside = outside }

-- it opened, and such a producer runs over a shelf that it left so
pub record BeginsKeeping (name listen file : List ℕ) (before : Option ShelfState) (from : Outside) (first : Running Keeping) : Type 0 where
  pub start : ℕ
  pub moment : ℕ
  pub opens : Opens listen start moment from first.outside
  pub shelf : Option ShelfState
  pub history : History
  pub begins : BeginsWith name file start moment before shelf history
  pub first_is : first ≡ begun history shelf first.outside

-- why rows are refused: one of a table is the first that is bad, they are of another name, or of a start that isn't earlier
abbrev pub Refused : (name : List ℕ) → (start : ℕ) → ShelfReason → Rows → Type 0
Refused name start (reason.Row table) rows = (key : List ℕ) × (said rows ≡ Err (table, key))
Refused name start reason.Name rows = (k : WhatIsKept) × (said rows ≡ Ok (SaysKept k)) × (k.began.name ≢ name)
Refused name start (reason.Start kept) rows =
    (k : WhatIsKept) × (said rows ≡ Ok (SaysKept k)) × (k.began.name ≡ name) × (kept ≡ k.began.start) × (start ≤ kept)

abbrev pub RefusedBy : (name : List ℕ) → (start : ℕ) → ShelfReason → Option ShelfState → Type 0
RefusedBy name start why None = ⊤
RefusedBy name start why (Some shelf) = Refused name start why shelf.rows

-- Rows are as they were, or they keep the history that these make, which were of this name and of an earlier start.
abbrev pub AreAsOpened : (name : List ℕ) → (start moment : ℕ) → (before : Rows) → Rows → Type 0
AreAsOpened name start moment before rows =
    (rows ≡ before)
    ⊎ ((what : Said) × (said before ≡ Ok what) × IsEarlier name start what × Keeps name rows (reopened start moment what))

-- An opening that ended leaves a shelf so: nothing was done to it; or this file wasn't opened, and nothing else was done; or it was,
-- and no other, and the rows, and each of those that a stop may have left since, are so.
abbrev pub LeavesUnopened : (name file : List ℕ) → (start moment : ℕ) → ShelfState → ShelfState → Type 0
LeavesUnopened name file start moment before after =
    (after ≡ before)
    ⊎ ((after ≡ open_called file before)
    ⊎ ((after.named ≡ before.named ++ file ∷ [])
    × AllByRecursion (AreAsOpened name start moment before.rows) after.trail × AreAsOpened name start moment before.rows after.rows))

-- the statuses that a shelf ends the opening with
abbrev pub EndsOpening : (name : List ℕ) → (start : ℕ) → Status → Option ShelfState → Type 0
EndsOpening name start status.ShelfFault shelf = ⊤
EndsOpening name start status.OutOfMemory shelf = ⊤
EndsOpening name start (status.BadShelf why) shelf = RefusedBy name start why shelf
EndsOpening name start other shelf = ⊥

-- ---- how it ends there

-- the keeper, the wire or the clock failed, and nothing was done to the shelf
pub record FailsBefore (listen : List ℕ) (end : Status) (before after : Option ShelfState) (from to : Outside) : Type 0 where
  pub error : NetworkError
  pub end_is : end ≡ status_of error
  pub fails : serving.FailsToRaise error from to ⊎ (serving.FailsToListen listen error from to ⊎ serving.FailsToTell listen error from to)
  pub same : after ≡ before

-- it listens and the clock told its moment, and the file wasn't opened, or its rows
pub record FailsOverShelf (name listen file : List ℕ) (end : Status) (before after : Option ShelfState) (from to : Outside) : Type 0 where
  pub start : ℕ
  pub moment : ℕ
  pub opens : Opens listen start moment from to
  pub ends : EndsOpening name start end before
  pub leaves : WhereTold before after (LeavesUnopened name file start moment)

abbrev pub FailsToOpen : (name listen file : List ℕ) → Status → (before after : Option ShelfState) → Outside → Outside → Type 0
FailsToOpen name listen file end before after from to =
    FailsBefore listen end before after from to ⊎ FailsOverShelf name listen file end before after from to

-- ---- how often the shelf failed

-- The count of its faults rises by one where a run ends with 77, and nowhere else: after a fault the shelf isn't called again, and no other
-- status hides it.
abbrev pub CountsEnd : ℕ → ℕ → Status → Type 0
CountsEnd before now status.ShelfFault = now ≡ after_fault before
CountsEnd before now other = now ≡ before

-- ---- inner words, cited by private functions alone

-- what a call that didn't succeed ends the opening with
abbrev pub opening_end : KeepError → Status
opening_end keep.ShelfFault = status.ShelfFault
opening_end (keep.BadRow table key) = status.BadShelf (reason.Row table)
opening_end keep.OtherName = status.BadShelf reason.Name
opening_end (keep.OldStart kept) = status.BadShelf (reason.Start kept)
opening_end other = status.OutOfMemory

-- the same before all was served
abbrev pub CountsOpening : {T : Type 0} → ℕ → ℕ → Result T Status → Type 0
CountsOpening before now (Ok value) = now ≡ before
CountsOpening before now (Err end) = CountsEnd before now end

-- a producer that was opened over a shelf stands for what it begins with, and the shelf is as it left it
pub record IsOpened (name file : List ℕ) (start moment : ℕ) (kept : Kept) (before after : Option ShelfState) : Type 0 where
  pub begun : IsBegun name kept
  pub over : WhereTold before after (λ s t. (h : History) × BeginsBy name file start moment s t h × Holds kept t.rows h)

pub record OpensKept (name listen file : List ℕ) (kept : Kept) (before after : Option ShelfState) (from to : Outside) : Type 0 where
  pub start : ℕ
  pub moment : ℕ
  pub opens : Opens listen start moment from to
  pub opened : IsOpened name file start moment kept before after
