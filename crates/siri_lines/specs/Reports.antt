-- What a run over lines writes, and how it ends.
use Rattle.std.specs.Prelude.{◌≡◌, ◌⊎◌, ℕ, List, [], ◌++◌, None, Some}
use Rattle.std.specs.Str.Lines.{lines}
use Rattle.siri_base.specs.declared.status.Status.{Status}
use Rattle.siri_base.specs.declared.status.Status.TheVariants as status
use Rattle.siri_lines.specs.RunResult.{RunResult, Events, report_from}
use Rattle.siri_lines.specs.Ends.{Bytes, Ends, AppendsFront, AreWholeLines, HasNoBreak, IsRead}

-- the report of a text: of its lines, from the first on
abbrev pub report_of : {W : Type 0} → Events W → W → List ℕ → RunResult
report_of event fresh bytes = report_from event 1 fresh (lines bytes)

-- The source failed: the whole report of the lines that were read whole was written, and none of them ended the run. Of
-- the last line some bytes were read, and no line feed.
pub record WritesWhole (report : List ℕ → RunResult) (input : List ℕ) (left old new : Bytes) : Type 0 where
  pub whole : List ℕ
  pub begun : List ℕ
  pub read : IsRead input (whole ++ begun) left
  pub lines : AreWholeLines whole
  pub last : HasNoBreak begun
  pub ends : Ends old (report whole) new status.Done

-- The run was cut off: a front of the report of the lines that were read whole was written. The last line of the input,
-- which no line feed ends, was read whole where the input was read to its end.
pub record WritesFront (report : List ℕ → RunResult) (input : List ℕ) (left old new : Bytes) : Type 0 where
  pub whole : List ℕ
  pub begun : List ℕ
  pub read : IsRead input (whole ++ begun) left
  pub lines : AreWholeLines whole ⊎ ((begun ≡ []) × (left ≡ Some []))
  pub front : AppendsFront old new (report whole).text

-- What was written of the report of the input, by how the run ended: all of it where it wasn't cut off.
abbrev pub Writes : (List ℕ → RunResult) → List ℕ → Bytes → Bytes → Bytes → Status → Type 0
Writes report input left old new status.ReadFault = WritesWhole report input left old new
Writes report input left old new status.OutOfMemory = WritesFront report input left old new
Writes report input left old new status.WriteFault = WritesFront report input left old new
Writes report input left old new end = Ends old (report input) new end

-- The same of a source that told its bytes.
abbrev pub Reports : (List ℕ → RunResult) → Bytes → Bytes → Bytes → Bytes → Status → Type 0
Reports report None left old new end = Unit {0}
Reports report (Some input) left old new end = Writes report input left old new end
