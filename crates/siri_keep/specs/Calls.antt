-- What the calls of a producer over a shelf do.
use Rattle.std.specs.Prelude.{◌≡◌, ◌≢◌, ◌<◌, ◌≤◌, ⊤, ℕ, List, ◌++◌, map, take, Bool, true, false, Result, Ok, Err, IsErrOf}
use Rattle.std.specs.List.{AllByRecursion}
use Rattle.siri_outside.specs.Causes.{Rose}
use Rattle.siri_records.specs.Keyed.{living}
use Rattle.siri_model.specs.Held.{held_of}
use Rattle.siri_model.specs.History.{History, current, now_of}
use Rattle.siri_producer.specs.Known.{Follows, Known, StandsFor}
use Rattle.siri_outside.specs.Rows.{Rows}
use Rattle.siri_outside.specs.Shelves.{ShelfState, after_fault}
use Rattle.siri_keeping.specs.Keeping.{AddsOnly, HasItems}
use Rattle.siri_keeping.specs.Keeps.{IsProperStep, Keeps, KeepsThese}
use Rattle.siri_keeping.specs.Opening.{SaysKept, Nothing, Said, WhatIsKept, reopened, said}
use Rattle.siri_keep.specs.declared.errors.KeepError.{KeepError}
use Rattle.siri_keep.specs.declared.errors.KeepError.TheVariants as errors
use Rattle.siri_keep.specs.declared.kept.Kept.{Kept}

-- whatever history a producer stood for, it stands for that one and these steps after it
abbrev pub StandsOn : Known → Known → History → Type 0
StandsOn old new steps = (h : History) → StandsFor old h → StandsFor new (h ++ steps)

-- and whatever history it followed, it follows that one and these steps after it
abbrev pub FollowsOn : Known → Known → History → Type 0
FollowsOn old new steps = (h : History) → Follows old h → Follows new (h ++ steps)

-- a shelf is as the calls of a producer left it
abbrev pub Left : Kept → Rows → Type 0
Left kept rows =
    KeepsThese kept.producer.responder.name kept.producer.responder.moment kept.producer.responder.start kept.producer.responder.held
    kept.mirror kept.places (map held_of kept.producer.table) rows

-- the shelf is as a producer left it, which stands for a history of proper steps
pub record Holds (kept : Kept) (rows : Rows) (h : History) : Type 0 where
  pub left : Left kept rows
  pub stands : StandsFor kept.producer h
  pub proper : AllByRecursion IsProperStep h

-- Whatever history the producer stood for before a call over the shelf that it left, it stands for that history and these steps
-- after it, and the shelf, as it leaves it, keeps that one.
pub record GoesOnAs (old new : Kept) (steps : History) (before after : Rows) (h : History) : Type 0 where
  pub holds : Holds new after (h ++ steps)
  pub keeps : Keeps old.producer.responder.name after (h ++ steps)

abbrev pub GoesOnKept : Kept → Kept → History → Rows → Rows → Type 0
GoesOnKept old new steps before after = (h : History) → Holds old before h → GoesOnAs old new steps before after h

-- table 1 has a row for each item that is live after a history, and no others: the rows of dead ones have left
abbrev pub HasLiveAlone : History → Rows → Type 0
HasLiveAlone h rows = HasItems rows (living (now_of h) (current h))

-- it is so of whatever history the producer stood for before a call over the shelf that it left
abbrev pub LeavesLive : Kept → Rows → Rows → Type 0
LeavesLive old before after = (h : History) → Holds old before h → HasLiveAlone h after

-- rows keep a history with some first of these steps after it
abbrev pub KeepsFront : (name : List ℕ) → History → History → Rows → Type 0
KeepsFront name h steps rows = (n : ℕ) × Keeps name rows (h ++ take n steps)

-- Whatever happens, each of the rows that a stop may have left since a call began, and the present ones, keep the history with
-- some first of its steps after it.
abbrev pub AddsFronts : Kept → History → ShelfState → ShelfState → Type 0
AddsFronts old steps before after =
    (h : History) → Holds old before.rows h
    → AddsOnly (λ rows. Keeps old.producer.responder.name rows h) (KeepsFront old.producer.responder.name h steps) before after

-- it is closed from now on where it was, and where this call failed or found no memory, and nowhere else
abbrev pub ClosesBy : {T : Type 0} → Bool → Bool → Result T KeepError → Type 0
ClosesBy old new (Ok value) = (old ≡ false) × (new ≡ false)
ClosesBy old new (Err errors.ShelfFault) = (old ≡ false) × (new ≡ true)
ClosesBy old new (Err errors.OutOfMemory) = (old ≡ false) × (new ≡ true)
ClosesBy old new (Err errors.Closed) = (old ≡ true) × (new ≡ true)
ClosesBy old new (Err errors.RowTooLong) = (old ≡ false) × (new ≡ false)
ClosesBy old new (Err other) = ⊥

-- What a message may be answered that has a row that is too long: that, unless an earlier call closed the producer. To find it
-- the row's text is made, so memory may be wanting before; that is told then, for nobody knows how long the text is.
abbrev pub RefusesRow : {T : Type 0} → Result T KeepError → Type 0
RefusesRow (Ok value) = ⊥
RefusesRow (Err errors.RowTooLong) = ⊤
RefusesRow (Err errors.OutOfMemory) = ⊤
RefusesRow (Err errors.Closed) = ⊤
RefusesRow (Err other) = ⊥

-- the count of faults never falls, and it has risen where the shelf failed
pub record HasKeepCause {T : Type 0} (before now : ℕ) (result : Result T KeepError) : Type 0 where
  pub later : before ≤ now
  pub failed : IsErrOf result errors.ShelfFault → Rose before now

-- It rises by one where the shelf failed, and nowhere else: a call of the shelf that failed isn't made again, nor is another one made
-- after it, and no other answer hides it.
abbrev pub CountsKept : {T : Type 0} → ℕ → ℕ → Result T KeepError → Type 0
CountsKept before now (Err errors.ShelfFault) = now ≡ after_fault before
CountsKept before now other = now ≡ before

-- where a call didn't succeed, the rows that a shelf kept stay
abbrev pub StaysUnless : {T : Type 0} → Result T KeepError → ShelfState → ShelfState → Type 0
StaysUnless (Ok value) before after = ⊤
StaysUnless (Err error) before after = after.rows ≡ before.rows

-- ---- opening

-- what rows say is of this name and of an earlier start
abbrev pub IsEarlier : (name : List ℕ) → (start : ℕ) → Said → Type 0
IsEarlier name start Nothing = ⊤
IsEarlier name start (SaysKept k) = (k.began.name ≡ name) × (k.began.start < start)

-- rows were read and written anew: the producer stands for the history that they make, and they keep it
pub record Reopens (name : List ℕ) (start now : ℕ) (kept : Kept) (before after : Rows) : Type 0 where
  pub what : Said
  pub says : said before ≡ Ok what
  pub earlier : IsEarlier name start what
  pub holds : Holds kept after (reopened start now what)
  pub keeps : Keeps name after (reopened start now what)
  pub is_open : kept.is_closed ≡ false

-- whatever shelf it was opened over: it has this name, stands for some history, and isn't closed
pub record IsBegun (name : List ℕ) (kept : Kept) : Type 0 where
  pub name_is : kept.producer.responder.name ≡ name
  pub stands : (h : History) × StandsFor kept.producer h
  pub is_open : kept.is_closed ≡ false

-- why rows aren't opened, in this order
abbrev pub RefusesToOpen : (name : List ℕ) → (start : ℕ) → KeepError → Rows → Type 0
RefusesToOpen name start (errors.BadRow table key) rows = said rows ≡ Err (table, key)
RefusesToOpen name start errors.OtherName rows = (k : WhatIsKept) × (said rows ≡ Ok (SaysKept k)) × (k.began.name ≢ name)
RefusesToOpen name start (errors.OldStart kept) rows =
    (k : WhatIsKept) × (said rows ≡ Ok (SaysKept k)) × (k.began.name ≡ name) × (kept ≡ k.began.start) × (start ≤ kept)
RefusesToOpen name start errors.ShelfFault rows = ⊤
RefusesToOpen name start errors.OutOfMemory rows = ⊤
RefusesToOpen name start other rows = ⊥

-- each of the rows that a stop may have left are as they were; or they keep the history that these make, which were of this
-- name and of an earlier start
abbrev pub AddsReopened : (name : List ℕ) → (start now : ℕ) → ShelfState → ShelfState → Type 0
AddsReopened name start now before after =
    AddsOnly (λ rows. rows ≡ before.rows)
    (λ rows. (what : Said) × (said before.rows ≡ Ok what) × IsEarlier name start what × Keeps name rows (reopened start now what)) before after
