-- What is put behind the tokens that were written before, where a value or a row is written.
use Rattle.std.specs.Prelude.{◌≡◌, ℕ, List, [], ◌∷◌, ◌++◌, Option, Some, None}
use Rattle.json.specs.Token.{Token, key}
use Rattle.serde_json.specs.Data.{Data}
use Rattle.siri_json.specs.Tokens.{tokens_of}

-- the tokens of a row: none where it isn't written
abbrev pub row_tokens : List ℕ → Option Data → List Token
row_tokens name None = []
row_tokens name (Some d) = key name ∷ tokens_of d

-- the tokens of the entries of a list
abbrev pub entries_tokens : List Data → List Token
entries_tokens [] = []
entries_tokens (d ∷ ds) = tokens_of d ++ entries_tokens ds

-- the value is written, behind what was there
abbrev pub Appends : Option Data → List Token → List Token → Type 0
Appends None old new = ⊥
Appends (Some d) old new = new ≡ old ++ tokens_of d

-- the row is written, behind what was there
abbrev pub AppendsRow : List ℕ → Option Data → List Token → List Token → Type 0
AppendsRow name None old new = ⊥
AppendsRow name (Some d) old new = new ≡ old ++ key name ∷ tokens_of d
