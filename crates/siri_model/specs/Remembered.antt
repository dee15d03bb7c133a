-- The last looks that a producer remembers. It may let one go where since then as many keys were touched as items may be held:
-- a look that is as the first then reads no more than a later one might.
use Rattle.std.specs.Prelude.{◌≡◌, ◌≤◌, List, [], ◌∷◌, length, Option, Some, None}
use Rattle.siri_records.specs.Keyed.{most_live}
use Rattle.siri_model.specs.Followed.{Look}

-- what is remembered of a last look
abbrev pub IsRemembered : (remembered look : Option Look) → Type 0
IsRemembered None None = Unit {0}
IsRemembered None (Some look) = most_live ≤ length look.touched
IsRemembered (Some remembered) (Some look) = remembered ≡ look
IsRemembered (Some remembered) None = ⊥

-- of each subscription in turn
abbrev pub AreRemembered : (remembered looks : List (Option Look)) → Type 0
AreRemembered [] [] = Unit {0}
AreRemembered (one ∷ remembered) (look ∷ looks) = IsRemembered one look × AreRemembered remembered looks
AreRemembered [] (look ∷ looks) = ⊥
AreRemembered (one ∷ remembered) [] = ⊥
