-- The relation of a member and a value: the member of a name spells the value under a rule, or is absent where there is none.
use Rattle.std.specs.Prelude.{◌≡◌, ℕ, List, Option, Result, Ok}
use Rattle.serde_json.specs.Data.{Data}
use Rattle.siri_json.specs.Values.{Found, found, absent, wrong, member_of}
use Rattle.siri_tables.specs.Refusals.{Refusal}
use Rattle.siri_tables.specs.Rules.{maybe}

-- the member of that name spells the value, or is absent where there is none
abbrev pub Spells : {A : Type 0} → (Data → Result (Option A) Refusal) → List ℕ → Data → Option A → Type 0
Spells rule key d value = maybe rule (member_of key d) ≡ Ok value

-- what holds of a value that was found, where one was
abbrev pub IfFound : Found Data → (Data → Type 0) → Type 0
IfFound (found o) P = P o
IfFound absent P = ⊥
IfFound wrong P = ⊥
