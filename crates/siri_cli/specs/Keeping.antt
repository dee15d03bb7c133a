-- The words of `keep`.
use Rattle.std.specs.Prelude.{ℕ, List, [], ◌∷◌, codes, ◌&&◌, Option, Some, None, option_map, if◌then◌else◌}
use Rattle.std.specs.List.{list_any}
use Rattle.siri_cli.specs.Arguments.{is_name, is_listen, count_of, most_connections}
use Rattle.siri_cli.specs.Commands.{begins_with_minus, is_word}
use Rattle.siri_cli.specs.declared.keep.Keep.{Keep}

abbrev pub keep_with : (name listen file : List ℕ) → ℕ → Keep
keep_with name listen file count = record { name = name; listen = listen; file = file; count = count }

-- `keep NAME LISTEN FILE COUNT`: FILE has 1 to 255 bytes, and COUNT is 1 to 1,000,000
abbrev pub keep_by : (name listen file count : List ℕ) → Option Keep
keep_by name listen file count =
    if is_name name && is_listen listen && is_name file
    then option_map (keep_with name listen file) (count_of 1 most_connections count)
    else None

abbrev pub keep_word : (word name listen file count : List ℕ) → Option Keep
keep_word word name listen file count = if is_word word (codes "keep") then keep_by name listen file count else None

abbrev pub keep_words : List (List ℕ) → Option Keep
keep_words (word ∷ name ∷ listen ∷ file ∷ count ∷ []) = keep_word word name listen file count
keep_words words = None

-- what the words ask of `keep`, or nothing where they are no plain spelling of it; no word begins with `-`
abbrev pub keep_of : List (List ℕ) → Option Keep
keep_of words = if list_any begins_with_minus words then None else keep_words words

-- it is asked for
abbrev pub IsKeep : Option Keep → Type 0
IsKeep (Some keep) = Unit {0}
IsKeep None = ⊥
