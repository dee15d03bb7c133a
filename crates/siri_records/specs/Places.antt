-- Where a key stands among entries.
-- Inner words: cited by private functions alone.
use Rattle.std.specs.Prelude.{◌≡◌, ℕ, zero, suc, List, [], ◌∷◌, Result, Ok, Err}
use Rattle.std.specs.declared.cmp.Ordering.{Ordering}
use Rattle.std.specs.declared.cmp.Ordering.TheVariants.{Less, Equal, Greater}

-- the query is above the keys before place i, and is the key there
abbrev pub IsHere : {K X : Type 0} → (K → Ordering) → List (K × X) → ℕ → Type 0
IsHere query [] i = ⊥
IsHere query (e ∷ es) zero = query e.0 ≡ Equal
IsHere query (e ∷ es) (suc i) = (query e.0 ≡ Greater) × IsHere query es i

-- the query is above the keys before place i, and below the one there
abbrev pub IsGap : {K X : Type 0} → (K → Ordering) → List (K × X) → ℕ → Type 0
IsGap query [] zero = Unit {0}
IsGap query [] (suc i) = ⊥
IsGap query (e ∷ es) zero = query e.0 ≡ Less
IsGap query (e ∷ es) (suc i) = (query e.0 ≡ Greater) × IsGap query es i

-- where a key stands, or where it would
abbrev pub Finds : {K X : Type 0} → (K → Ordering) → List (K × X) → Result ℕ ℕ → Type 0
Finds query es (Ok i) = IsHere query es i
Finds query es (Err i) = IsGap query es i

-- the value at a place is another one
abbrev pub set_value_at : {K X : Type 0} → List (K × X) → ℕ → X → List (K × X)
set_value_at [] i x = []
set_value_at (e ∷ es) zero x = (e.0, x) ∷ es
set_value_at (e ∷ es) (suc i) x = e ∷ set_value_at es i x
