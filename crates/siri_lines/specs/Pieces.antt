-- How far a run over lines reads its input.
use Rattle.std.specs.Prelude.{ℕ, ◌≤◌, List, ◌++◌, length, None, Some, IsSome}
use Rattle.std.specs.Str.Lines.{lines}
use Rattle.siri_lines.specs.RunResult.{Events}
use Rattle.siri_lines.specs.Ends.{Bytes, AreWholeLines, HasNoBreak, IsRead}
use Rattle.siri_lines.specs.Fronts.{gone_through}

-- What was read before the last piece ended no run: none of its whole lines did, and the line that had begun was within the limit,
-- a carriage return at its end. A piece is what a source gives at once, at most 65,536 bytes.
pub record EndsInPiece {W : Type 0} (event : Events W) (fresh : W) (input : List ℕ) (left : Bytes) : Type 0 where
  pub whole : List ℕ
  pub begun : List ℕ
  pub piece : List ℕ
  pub read : IsRead input ((whole ++ begun) ++ piece) left
  pub ended : AreWholeLines whole
  pub last : HasNoBreak begun
  pub within : length begun ≤ 1048577
  pub goes : IsSome (gone_through event 1 fresh (lines whole))
  pub few : length piece ≤ 65536

-- So nothing is read beyond the piece in which the line's end lay that ended the run, of a source that told its bytes.
abbrev pub ReadsNoFurther : {W : Type 0} → Events W → W → Bytes → Bytes → Type 0
ReadsNoFurther event fresh None left = Unit {0}
ReadsNoFurther event fresh (Some input) left = EndsInPiece event fresh input left
