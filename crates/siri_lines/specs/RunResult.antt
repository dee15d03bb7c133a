-- What lines bring, one after the other.
use Rattle.std.specs.Prelude.{ℕ, ◌+◌, List, [], ◌∷◌, ◌++◌, length, if◌then◌else◌, nat_lt}
use Rattle.siri_base.specs.declared.status.Status.{Status}
use Rattle.siri_base.specs.declared.status.Status.TheVariants as status

-- what is written, and how the run ends
pub record RunResult : Type 0 where
  pub text : List ℕ
  pub status : Status

-- nothing more is written, and the run ends
abbrev pub ends_with : Status → RunResult
ends_with status = record { text = []; status = status }

-- the text comes first
abbrev pub after_text : List ℕ → RunResult → RunResult
after_text text told = record { text = text ++ told.text; status = told.status }

-- what a line brings: its report and the world after it, or the end of the run
pub data Verdict (W : Type 0) : Type 0 where
  Goes : List ℕ → W → Verdict W
  RunEnds : Status → Verdict W

-- what follows a line
abbrev pub goes_on : {W : Type 0} → Verdict W → (W → RunResult) → RunResult
goes_on (Goes text world) later = after_text text (later world)
goes_on (RunEnds status) later = ends_with status

-- what lines do: the number of a line, the world before it and its bytes give its verdict
abbrev pub Events : Type 0 → Type 0
Events W = ℕ → W → List ℕ → Verdict W

-- the most bytes that a line has
abbrev pub longest_line : ℕ
longest_line = 1048576

-- a line's length is tested first, then its number, so many at most, then what it does
abbrev pub verdict : {W : Type 0} → ℕ → Events W → Events W
verdict most event n world line =
    if nat_lt longest_line (length line) then RunEnds (status.Limit n)
    else if nat_lt most n then RunEnds (status.Limit n)
    else event n world line

-- the report of the lines from line n on
abbrev pub report_from : {W : Type 0} → Events W → ℕ → W → List (List ℕ) → RunResult
report_from event n world [] = ends_with status.Done
report_from event n world (line ∷ rest) = goes_on (event n world line) (λ w. report_from event (n + 1) w rest)
