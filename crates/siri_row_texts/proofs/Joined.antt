-- Pieces of a text, one after the other.
use Rattle.std.proofs.Common.{◌≡◌, ℕ, List, [], ◌∷◌, ◌++◌, refl, append_assoc}

pub five_parts : (a b c : List ℕ) → (((([] ++ a) ++ (32 ∷ [])) ++ b) ++ (32 ∷ [])) ++ c ≡ a ++ 32 ∷ b ++ 32 ∷ c
five_parts a b c = simp append_assoc refl
