-- What a shelf that tells its rows does.
use Rattle.std.specs.Prelude.{◌≡◌, ◌⊎◌, ℕ, ◌+◌, ◌-◌, ◌^◌, min, List, [], ◌∷◌, ◌++◌, Option, Result, Ok, Err, option_map}
use Rattle.std.specs.Borrow.{Bor}
use Rattle.siri_outside.specs.declared.errors.OutsideError.{OutsideError}
use Rattle.siri_outside.specs.declared.errors.OutsideError.TheVariants as outside
use Rattle.siri_outside.specs.OutsideCalls.{WhereTold}
use Rattle.siri_outside.specs.declared.rows.Put.{Put}
use Rattle.siri_outside.specs.declared.rows.Row.{Row}
use Rattle.siri_outside.specs.Rows.{HasByteTables, InOrder, Rows, next_row, with_puts}

-- What it tells: its rows; its trail: the rows that a stop may have left at some moment since it was opened, the present
-- ones last; and the names of the files that were to be opened, in order, whether the call failed or not.
pub record ShelfState : Type 0 where
  pub rows : Rows
  pub trail : List Rows
  pub named : List (List ℕ)

-- one more call of `open` named its file
abbrev pub open_called : List ℕ → ShelfState → ShelfState
open_called file shelf = record shelf { named = shelf.named ++ file ∷ [] }

-- the file of this name: the rows stay, and from now on a stop leaves them
pub record Opened (file : List ℕ) (old new : ShelfState) : Type 0 where
  pub rows : new.rows ≡ old.rows
  pub trail : new.trail ≡ old.rows ∷ []
  pub named : new.named ≡ old.named ++ file ∷ []

-- Where it isn't opened nothing changes but that it was called. Want of memory leaves all as it was.
abbrev pub Opens : {T : Type 0} → List ℕ → ShelfState → ShelfState → Result T OutsideError → Type 0
Opens file old new (Ok done) = Opened file old new
Opens file old new (Err outside.Failed) = new ≡ open_called file old
Opens file old new (Err outside.OutOfMemory) = new ≡ old

abbrev pub key_after : Option (Bor (List ℕ)) → Option (List ℕ)
key_after after = option_map (λ key. key.now) after

abbrev pub GivesNext : ℕ → Option (List ℕ) → ShelfState → Result (Option Row) OutsideError → Type 0
GivesNext table after old (Ok row) = InOrder old.rows × HasByteTables old.rows × (row ≡ next_row table after old.rows)
GivesNext table after old (Err error) = Unit {0}

-- nothing changes, and the row is the next one
pub record GivesRow (table : ℕ) (after : Option (List ℕ)) (old new : ShelfState)
    (result : Result (Option Row) OutsideError) : Type 0 where
  pub row : GivesNext table after old result
  pub same : new ≡ old

-- the rows become those after the puts
pub record Written (puts : List Put) (old new : ShelfState) : Type 0 where
  pub rows : new.rows ≡ with_puts old.rows puts
  pub trail : new.trail ≡ old.trail ++ new.rows ∷ []
  pub named : new.named ≡ old.named

-- Nothing was written, but a stop within the call may have left the rows with the puts.
pub record Refused (puts : List Put) (old new : ShelfState) : Type 0 where
  pub rows : new.rows ≡ old.rows
  pub trail : new.trail ≡ old.trail ++ with_puts old.rows puts ∷ old.rows ∷ []
  pub named : new.named ≡ old.named

-- Where memory was wanting, the call may have ended before anything was begun.
abbrev pub Writes : {T : Type 0} → List Put → ShelfState → ShelfState → Result T OutsideError → Type 0
Writes puts old new (Ok done) = Written puts old new
Writes puts old new (Err outside.Failed) = Refused puts old new
Writes puts old new (Err outside.OutOfMemory) = (new ≡ old) ⊎ Refused puts old new

-- ---- how often it failed

-- one failure more, up to its type's end
abbrev pub after_fault : ℕ → ℕ
after_fault count = min (count + 1) (2 ^ 64 - 1)

-- The count rises by one where a call failed, and nowhere else: neither a call that succeeds nor want of memory hides a failure.
abbrev pub CountsFault : {T : Type 0} → ℕ → ℕ → Result T OutsideError → Type 0
CountsFault before now (Ok value) = now ≡ before
CountsFault before now (Err outside.Failed) = now ≡ after_fault before
CountsFault before now (Err outside.OutOfMemory) = now ≡ before

-- what a shelf tells before and after, where it tells it, is so
abbrev pub OnShelf : {B : Type 0} → (B → Option ShelfState) → B → B → (ShelfState → ShelfState → Type 0) → Type 0
OnShelf tells before after Does = WhereTold (tells before) (tells after) Does
