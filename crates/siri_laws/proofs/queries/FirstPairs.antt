-- The first pair of a name, in a form that was written of pairs.
use Rattle.std.proofs.Common.{◌≡◌, ℕ, cond, List, [], ◌∷◌, map, Option, Some, None, refl, ap, ◌∙◌}
use Rattle.std.specs.Prelude.{nat_eq, IsUtf8}
use Rattle.std.specs.Cmp.Lexicographic.{pointwise}
use Rattle.std.specs.List.{AllByRecursion}
use Rattle.std.specs.Str.Lossy.{utf8_lossy}
use Rattle.std.proofs.lemmas.List.Elements.{All-from_recursion}
use Rattle.std.proofs.lemmas.Str.{utf8_lossy-IsUtf8}
use Rattle.form_urlencoded.specs.Form.{decode, raw_pairs, extend_pairs}
use Rattle.form_urlencoded.proofs.FormLemmas.{IsBytePair, round_trip}
use Rattle.siri_queries.specs.Pairs.{text_of, first_among, first_value}
use Rattle.siri_laws.proofs.queries.Bytes.{utf8_bytes}

abbrev pub Pair : Type 0
Pair = List ℕ × List ℕ

-- both texts of a pair are UTF-8
abbrev pub AreTexts : Pair → Type 0
AreTexts pair = IsUtf8 pair.0 × IsUtf8 pair.1

-- the value of the first pair of a name
abbrev pub first_of : List ℕ → List Pair → Option (List ℕ)
first_of wanted [] = None
first_of wanted (pair ∷ pairs) = cond (pointwise nat_eq pair.0 wanted) (Some pair.1) (first_of wanted pairs)

-- the same of pairs of bytes
abbrev first_read : List ℕ → List Pair → Option (List ℕ)
first_read wanted [] = None
first_read wanted (pair ∷ pairs) =
    cond (pointwise nat_eq (utf8_lossy pair.0) wanted) (Some (utf8_lossy pair.1)) (first_read wanted pairs)

abbrev decoded : Pair → Pair
decoded pair = (decode pair.0, decode pair.1)

among_is : (wanted : List ℕ) (raw : List Pair) → first_among wanted raw ≡ first_read wanted (map decoded raw)
among_is wanted [] = refl
among_is wanted (pair ∷ raw) =
    ap (λ (later : Option (List ℕ)). cond (pointwise nat_eq (text_of pair.0) wanted) (Some (text_of pair.1)) later) (among_is wanted raw)

read_is : (wanted : List ℕ) (pairs : List Pair) → AllByRecursion AreTexts pairs → first_read wanted pairs ≡ first_of wanted pairs
read_is wanted [] texts = refl
read_is wanted (pair ∷ pairs) texts =
    rw (utf8_lossy-IsUtf8 pair.0 texts.0.0, utf8_lossy-IsUtf8 pair.1 texts.0.1, read_is wanted pairs texts.1) refl

are_bytes : (pairs : List Pair) → AllByRecursion AreTexts pairs → AllByRecursion IsBytePair pairs
are_bytes [] texts = tt
are_bytes (pair ∷ pairs) texts = ((utf8_bytes pair.0 texts.0.0, utf8_bytes pair.1 texts.0.1), are_bytes pairs texts.1)

-- what a form of pairs gives for a name is the value of the first pair that has it
pub form_gives : (wanted : List ℕ) (pairs : List Pair) → AllByRecursion AreTexts pairs
    → first_value wanted (extend_pairs [] pairs) ≡ first_of wanted pairs
form_gives wanted pairs texts =
    among_is wanted (raw_pairs (extend_pairs [] pairs))
    ∙ ap (first_read wanted) (round_trip pairs (All-from_recursion IsBytePair pairs (are_bytes pairs texts)))
    ∙ read_is wanted pairs texts
