-- The line that tells how a run ended.
use Rattle.std.specs.Prelude.{ℕ, List, [], ◌∷◌, ◌++◌}
use Rattle.siri_base.specs.declared.status.Status.{Status}
use Rattle.siri_base.specs.Words.{status_text}

-- a text and a line end, or nothing where there is no text
abbrev pub line_if_any : List ℕ → List ℕ
line_if_any [] = []
line_if_any (byte ∷ text) = (byte ∷ text) ++ 10 ∷ []

-- the text of a status and a line end; nothing for a status without a text
abbrev pub status_line : Status → List ℕ
status_line status = line_if_any (status_text status)
