-- What puts make of rows, part by part.
use Rattle.std.proofs.Common.{◌≡◌, [], ◌∷◌, ◌++◌, Bool, true, false, refl, append_assoc}
use Rattle.std.specs.List.{filter}
use Rattle.siri_outside.specs.declared.rows.StoredRow.{StoredRow}
use Rattle.siri_outside.specs.Rows.{Rows, one_if}

first_case : (p : StoredRow → Bool) (row : StoredRow) (rows : Rows) (b : Bool) → p row ≡ b
    → one_if (p row) row ++ filter p rows ≡ filter p (row ∷ rows)
first_case p row rows true h = rw h refl
first_case p row rows false h = rw h refl

-- the first of those that pass a test, and the others
pub first_of_those : (p : StoredRow → Bool) (row : StoredRow) (rows : Rows)
    → one_if (p row) row ++ filter p rows ≡ filter p (row ∷ rows)
first_of_those p row rows = first_case p row rows (p row) refl

-- three parts, one after the other
pub three_parts : (a b c : Rows) → (([] ++ a) ++ b) ++ c ≡ a ++ (b ++ c)
three_parts a b c = simp append_assoc refl
