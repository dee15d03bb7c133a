-- What a run leaves in its sink.
use Rattle.std.specs.Prelude.{◌≡◌, ◌⊎◌, ℕ, List, [], ◌∷◌, ◌++◌, ◌==◌, Bool, true, false, Option, None, Some}
use Rattle.std.specs.Io.KnownBytes.{Appends}
use Rattle.siri_base.specs.declared.status.Status.{Status}
use Rattle.siri_base.specs.declared.status.Status.TheVariants as status
use Rattle.siri_lines.specs.RunResult.{RunResult}

-- what a sink holds, or what a source has left, where it is told
abbrev pub Bytes : Type 0
Bytes = Option (List ℕ)

-- the whole text was written, and the run ended as it says
pub record Ends (old : Bytes) (told : RunResult) (new : Bytes) (status : Status) : Type 0 where
  pub status_is : told.status ≡ status
  pub written : Appends old new told.text

-- a front of the text was written
pub record AppendsFront (old new : Bytes) (text : List ℕ) : Type 0 where
  pub front : List ℕ
  pub rest : List ℕ
  pub parts : text ≡ front ++ rest
  pub written : Appends old new front

-- the run was cut off by want of memory or by the outside
abbrev pub is_cut : Status → Bool
is_cut status.ReadFault = true
is_cut status.OutOfMemory = true
is_cut status.WriteFault = true
is_cut other = false

-- the bytes are whole lines: there are none, or the last is a line feed
abbrev pub AreWholeLines : List ℕ → Type 0
AreWholeLines bytes = (bytes ≡ []) ⊎ ((front : List ℕ) × (bytes ≡ front ++ 10 ∷ []))

-- no byte ends a line
abbrev pub HasNoBreak : List ℕ → Type 0
HasNoBreak [] = Unit {0}
HasNoBreak (b ∷ bytes) = ((b == 10) ≡ false) × HasNoBreak bytes

-- what was read of the input, where this is left of it
abbrev pub IsRead : List ℕ → List ℕ → Bytes → Type 0
IsRead input taken None = ⊥
IsRead input taken (Some left) = input ≡ taken ++ left

-- a source that has told its bytes has none left after a run that did its work
abbrev pub ReadsAll : Bytes → Status → Type 0
ReadsAll (Some left) status.Done = left ≡ []
ReadsAll left status = Unit {0}
