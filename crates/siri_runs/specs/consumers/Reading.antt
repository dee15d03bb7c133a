-- What the reading of a source gives.
use Rattle.std.specs.Prelude.{◌≡◌, ℕ, List, ◌++◌, Bool, true, false, None, Some, Result, Ok, Err, IsOk, IsSomeAnd}
use Rattle.siri_outside.specs.MetFailures.{is_read_fault}
use Rattle.siri_base.specs.declared.status.Status.{Status}
use Rattle.siri_base.specs.declared.status.Status.TheVariants as status
use Rattle.siri_life.specs.Named.{Name}
use Rattle.siri_lines.specs.Ends.{Bytes, AreWholeLines, HasNoBreak, IsRead}
use Rattle.siri_lines.specs.Stands.{IsInput}
use Rattle.siri_wire.specs.declared.wanted.Wanted.{Wanted}
use Rattle.siri_runs.specs.consumers.Wanting.{all_wanted, most_wanted}

-- this is all that the bytes want which were read, of at most so many lines; where the source told its bytes, they are these
pub record Wants (most : ℕ) (subscriber : Name) (input : Bytes) (list : List Wanted) : Type 0 where
  pub bytes : List ℕ
  pub read : IsInput input bytes
  pub are : all_wanted most subscriber bytes ≡ Ok list

-- the source tells its text, and this is all good: at most 200 lines within the limits, each the text of a wanted subscription,
-- empty, or a comment
abbrev pub TellsWanted : Name → Bytes → Type 0
TellsWanted subscriber input = IsSomeAnd input (λ bytes. IsOk (all_wanted most_wanted subscriber bytes))

-- the source failed: each line that was read whole before is good. Of the last line some bytes were read, and no line feed.
pub record WantsWhole (most : ℕ) (subscriber : Name) (input : List ℕ) (left : Bytes) : Type 0 where
  pub whole : List ℕ
  pub begun : List ℕ
  pub read : IsRead input (whole ++ begun) left
  pub lines : AreWholeLines whole
  pub last : HasNoBreak begun
  pub wanted : List Wanted
  pub are : all_wanted most subscriber whole ≡ Ok wanted

-- why an input gives nothing: its first line that isn't taken, or a fault of the source. Want of memory is free.
abbrev pub Stops : (most : ℕ) → Name → List ℕ → Bytes → Status → Type 0
Stops most subscriber input left (status.Script n why) = all_wanted most subscriber input ≡ Err (status.Script n why)
Stops most subscriber input left (status.Limit n) = all_wanted most subscriber input ≡ Err (status.Limit n)
Stops most subscriber input left status.ReadFault = WantsWhole most subscriber input left
Stops most subscriber input left status.OutOfMemory = Unit {0}
Stops most subscriber input left other = ⊥

-- the same of a source that told its bytes
abbrev pub StopsAt : (most : ℕ) → Name → Bytes → Bytes → Status → Type 0
StopsAt most subscriber None left end = Unit {0}
StopsAt most subscriber (Some input) left end = Stops most subscriber input left end

-- the source ended it
abbrev pub has_failed_to_read : {T : Type 0} → Result T Status → Bool
has_failed_to_read (Ok value) = false
has_failed_to_read (Err end) = is_read_fault end

-- the statuses that the reading may end a run with
abbrev pub EndsReading : Status → Type 0
EndsReading (status.Script n why) = Unit {0}
EndsReading (status.Limit n) = Unit {0}
EndsReading status.ReadFault = Unit {0}
EndsReading status.OutOfMemory = Unit {0}
EndsReading other = ⊥

-- a source that gives no lines ends a run with one of these
abbrev pub is_of_source : Status → Bool
is_of_source (status.Script n why) = true
is_of_source (status.Limit n) = true
is_of_source status.ReadFault = true
is_of_source other = false
