-- The line that a run over the network ends with.
use Rattle.std.specs.Prelude.{ℕ, List, [], ◌∷◌, ◌++◌, codes}
use Rattle.std.specs.Fmt.{decimal}
use Rattle.siri_http.specs.declared.tally.Tally.{Tally}

-- a word and a count
abbrev pub counted_text : List ℕ → ℕ → List ℕ
counted_text word count = word ++ decimal count

-- `served N refused R dropped D unsent U`
abbrev pub summary_text : Tally → List ℕ
summary_text tally =
    counted_text (codes "served ") tally.served ++ (
    counted_text (codes " refused ") tally.refused ++ (
    counted_text (codes " dropped ") tally.dropped ++ (
    counted_text (codes " unsent ") tally.unsent ++ 10 ∷ [])))
