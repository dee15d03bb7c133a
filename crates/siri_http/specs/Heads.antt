-- The head text of an input (RFC 9112, sections 2.1 and 2.2).
use Rattle.std.specs.Prelude.{ℕ, Bool, false, ◌&&◌, ◌||◌, not, nat_lt, ◌==◌, bytes_eq, List, [], ◌∷◌, length, take, map, Option, if◌then◌else◌}
use Rattle.std.specs.List.{filter, find, onto_first}

-- a text in its lines: each goes up to its LF, and the last up to the end of the text where no LF ends it
abbrev pub lines : List ℕ → List (List ℕ)
lines [] = []
lines (byte ∷ text) = if byte == 10 then (byte ∷ []) ∷ lines text else onto_first byte (lines text)

-- a line is empty where nothing or only a CR stands before its LF
abbrev pub is_empty : List ℕ → Bool
is_empty line = bytes_eq line (10 ∷ []) || bytes_eq line (13 ∷ 10 ∷ [])

-- how many lines of a text aren't empty
unfoldable pub full_lines : List ℕ → ℕ
full_lines text = length (filter (λ line. not (is_empty line)) (lines text))

-- the last of these lines is empty
abbrev pub ends_empty : List (List ℕ) → Bool
ends_empty [] = false
ends_empty (line ∷ []) = is_empty line
ends_empty (line ∷ next ∷ more) = ends_empty (next ∷ more)

-- a text ends with an empty line, and some line before that isn't empty
abbrev pub ends_head : List ℕ → Bool
ends_head text = ends_empty (lines text) && nat_lt 0 (full_lines text)

-- the fronts of a text that have a byte at least, from the shortest one on
abbrev pub fronts : List ℕ → List (List ℕ)
fronts [] = []
fronts (byte ∷ text) = (byte ∷ []) ∷ map (λ front. byte ∷ front) (fronts text)

-- The head text: the shortest front of the input that ends with an empty line which comes after a line that isn't. It
-- has 16,384 bytes at most.
unfoldable pub head_text : List ℕ → Option (List ℕ)
head_text input = find ends_head (fronts (take 16384 input))
