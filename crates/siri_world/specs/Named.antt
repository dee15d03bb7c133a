-- Inner words: cited by private functions alone. Consumers as they are kept: each under its name.
use Rattle.std.specs.Prelude.{◌≡◌, List, [], ◌∷◌, string_bytes}
use Rattle.std.specs.Prelude.{String}
use Rattle.siri_view.specs.Consuming.{Consuming}

-- the key of each is its name
abbrev pub AreNamed : {A : Type 0} → List (String A × Consuming) → Type 0
AreNamed [] = Unit {0}
AreNamed (entry ∷ entries) = (string_bytes entry.0 ≡ entry.1.name) × AreNamed entries
