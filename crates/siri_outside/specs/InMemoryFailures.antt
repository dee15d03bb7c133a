-- Inner words: cited by private functions alone. The failures to come, as a form in memory holds them.
use Rattle.std.specs.Prelude.{ℕ, ◌≤◌, List, [], ◌∷◌, ⊤, Option, None, Some}

-- so many bytes come before the next failure
abbrev pub Reaches : List ℕ → ℕ → Type 0
Reaches [] count = ⊤
Reaches (before ∷ later) count = count ≤ before

-- the failures of which the next stands apart
abbrev pub failures_of : Option ℕ → List ℕ → List ℕ
failures_of None later = []
failures_of (Some next) later = next ∷ later
