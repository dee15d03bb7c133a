-- Texts of a line.
use Rattle.std.specs.Prelude.{ℕ, List, [], ◌∷◌, ◌++◌, codes}

abbrev pub line_feed : List ℕ
line_feed = 10 ∷ []

abbrev pub space : List ℕ
space = codes " "

-- two texts with a space between them
abbrev pub spaced : List ℕ → List ℕ → List ℕ
spaced first next = first ++ (space ++ next)
