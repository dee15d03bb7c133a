-- Small inputs, cut by the definition of a head text.
use Rattle.std.proofs.Common.{◌≡◌, ℕ, List, [], ◌∷◌, ◌++◌, None, Some, refl}
use Rattle.std.specs.Prelude.{codes}
use Rattle.siri_http.specs.Heads.{lines, full_lines, head_text}

-- a line that ends with CR LF, and one that ends with LF alone
abbrev by_both : List ℕ → List ℕ
by_both text = text ++ 13 ∷ 10 ∷ []

abbrev by_feed : List ℕ → List ℕ
by_feed text = text ++ 10 ∷ []

-- bytes after the last LF are a line that no LF has ended yet
pub cut_in_lines : lines (by_both (codes "a") ++ (by_feed [] ++ codes "b")) ≡ by_both (codes "a") ∷ by_feed [] ∷ codes "b" ∷ []
cut_in_lines = refl

-- an empty line at the start belongs to the head text and doesn't end it; what comes after the empty line that does is left
pub empty_line_first : head_text (by_both []
    ++ (by_both (codes "a") ++ (by_feed [] ++ (by_both (codes "b") ++ by_both [])))) ≡ Some
    (by_both [] ++ (by_both (codes "a") ++ by_feed []))
unfolding head_text full_lines
empty_line_first = refl

-- without an empty line there is none, nor with empty lines alone
pub no_empty_line : head_text (by_both (codes "a") ++ codes "b") ≡ None
unfolding head_text full_lines
no_empty_line = refl

pub empty_lines_alone : head_text (by_both [] ++ (by_feed [] ++ by_both [])) ≡ None
unfolding head_text full_lines
empty_lines_alone = refl

-- a CR within a line is a byte of it
pub returns_alone : head_text (13 ∷ (by_both [] ++ by_feed [])) ≡ Some (13 ∷ (by_both [] ++ by_feed []))
unfolding head_text full_lines
returns_alone = refl

pub two_of_three : full_lines (by_both (codes "a") ++ (by_feed (codes "b") ++ by_both [])) ≡ 2
unfolding full_lines
two_of_three = refl
