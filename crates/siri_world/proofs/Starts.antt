-- The histories of a world's starts, and the latest.
use Rattle.std.proofs.Common.{◌≡◌, suc, ◌<◌, List, [], ◌∷◌, ◌++◌, length, Option, None, refl, ap, arith}
use Rattle.std.specs.Prelude.{unwrap_or}
use Rattle.std.specs.List.{last_or}
use Rattle.siri_model.specs.History.{History}
use Rattle.siri_model.proofs.Current.{last_appended}
use Rattle.siri_world_model.specs.World.{last_goes_on}

-- the latest of some starts
abbrev pub latest_of : List History → History
latest_of starts = unwrap_or (last_or None starts) []

pub goes_length : (steps : History) (starts : List History) → length (last_goes_on steps starts) ≡ length starts
goes_length steps [] = refl
goes_length steps (history ∷ []) = refl
goes_length steps (history ∷ next ∷ more) = ap suc (goes_length steps (next ∷ more))

pub goes_latest : (steps : History) (starts : List History) → 0 < length starts → latest_of (last_goes_on steps starts) ≡ latest_of starts ++ steps
goes_latest steps [] some = absurd (omega (arith, some))
goes_latest steps (history ∷ []) some = refl
goes_latest steps (history ∷ next ∷ []) some = refl
goes_latest steps (history ∷ next ∷ third ∷ more) some = goes_latest steps (next ∷ third ∷ more) (omega arith)

pub last_start : (starts : List History) (history : History) → latest_of (starts ++ history ∷ []) ≡ history
last_start starts history = ap (λ (o : Option History). unwrap_or o []) (last_appended None starts history)
