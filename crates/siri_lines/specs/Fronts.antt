-- What the first lines of a run bring, where none of them ends it.
use Rattle.std.specs.Prelude.{ℕ, ◌+◌, List, [], ◌∷◌, Option, Some, None}
use Rattle.siri_lines.specs.RunResult.{Verdict, Goes, RunEnds, Events}

-- the world after a line, if it doesn't end the run, and after the lines that follow
abbrev pub gone_on : {W : Type 0} → Verdict W → (W → Option W) → Option W
gone_on (Goes text world) later = later world
gone_on (RunEnds status) later = None

-- the world after these lines, the first of which has this number; none where one of them ends the run
abbrev pub gone_through : {W : Type 0} → Events W → ℕ → W → List (List ℕ) → Option W
gone_through event n world [] = Some world
gone_through event n world (line ∷ rest) = gone_on (event n world line) (λ after. gone_through event (n + 1) after rest)
