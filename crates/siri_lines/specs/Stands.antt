-- What a taker of lines stands for once all lines were taken.
use Rattle.std.specs.Prelude.{◌≡◌, ℕ, List, None, Some}
use Rattle.std.specs.Str.Lines.{lines}
use Rattle.siri_lines.specs.RunResult.{Events}
use Rattle.siri_lines.specs.Ends.{Bytes}
use Rattle.siri_lines.specs.Fronts.{gone_through}

-- the bytes are those of the input, where it is told
abbrev pub IsInput : Bytes → List ℕ → Type 0
IsInput None bytes = Unit {0}
IsInput (Some input) bytes = input ≡ bytes

-- all bytes were read, none of their lines ended the run, and the taker stands for the world after them
pub record TakesAll {T W : Type 0} (Fits : T → W → Type 0) (event : Events W) (fresh : W) (input : Bytes) (now : T) : Type 0 where
  pub bytes : List ℕ
  pub read : IsInput input bytes
  pub world : W
  pub is : gone_through event 1 fresh (lines bytes) ≡ Some world
  pub stands : Fits now world
