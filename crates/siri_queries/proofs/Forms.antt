-- The pairs of rows in a form, one after another.
use Rattle.std.proofs.Common.{◌≡◌, ℕ, List, [], ◌∷◌, Option, Some, None, refl, ◌∙◌}
use Rattle.std.specs.Prelude.{option_to_list}
use Rattle.std.specs.List.{filter_map, cons_option}
use Rattle.form_urlencoded.specs.Form.{extend_pairs}
use Rattle.siri_tables.specs.Writing.{Row}
use Rattle.siri_queries.specs.Targets.{pair_of, with_pair, with_pairs}

one_more : (form : List ℕ) (pair : Option (List ℕ × List ℕ)) (pairs : List (List ℕ × List ℕ))
    → extend_pairs form (cons_option pair pairs) ≡ extend_pairs (extend_pairs form (option_to_list pair)) pairs
one_more form None pairs = refl
one_more form (Some p) pairs = refl

-- the pairs of rows, all together or row by row
pub rows_pairs : (form : List ℕ) (rows : List Row) → extend_pairs form (filter_map pair_of rows) ≡ with_pairs form rows
rows_pairs form [] = refl
rows_pairs form (row ∷ rows) =
    one_more form (pair_of row) (filter_map pair_of rows) ∙ rows_pairs (with_pair form row) rows
