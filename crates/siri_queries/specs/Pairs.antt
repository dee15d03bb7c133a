-- The parts of a target: its path, and the pairs of its query (the URL Standard, section 5).
use Rattle.std.specs.Prelude.{ℕ, List, [], ◌∷◌, nat_eq, Option, None, Some, if◌then◌else◌}
use Rattle.std.specs.Cmp.Lexicographic.{pointwise}
use Rattle.std.specs.Str.Lossy.{utf8_lossy}
use Rattle.form_urlencoded.specs.Form.{decode, raw_pairs, split_once}

-- what stands before the first `?`, and what stands behind it
abbrev pub path_in : List ℕ → List ℕ
path_in target = (split_once 63 target).0

abbrev pub query_in : List ℕ → List ℕ
query_in target = (split_once 63 target).1

-- the text of an encoded name or value: `+` is a space, `%` and two digits are a byte, and what isn't UTF-8 is U+FFFD
abbrev pub text_of : List ℕ → List ℕ
text_of bytes = utf8_lossy (decode bytes)

-- the value of the first pair of a name, among pairs that are still encoded
abbrev pub first_among : (wanted : List ℕ) → List (List ℕ × List ℕ) → Option (List ℕ)
first_among wanted [] = None
first_among wanted (pair ∷ pairs) =
    if pointwise nat_eq (text_of pair.0) wanted then Some (text_of pair.1) else first_among wanted pairs

abbrev pub first_value : (wanted query : List ℕ) → Option (List ℕ)
first_value wanted query = first_among wanted (raw_pairs query)
