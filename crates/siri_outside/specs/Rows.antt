-- Rows of tables: a finite map from a table and a key to a text, as its rows in order of table and key.
use Rattle.std.specs.Prelude.{ℕ, ◌<◌, List, [], ◌∷◌, ◌++◌, map, find, fold, Bool, true, false, ◌&&◌, ◌==◌, Option, None, Some, option_map}
use Rattle.std.specs.List.{AllByRecursion, filter}
use Rattle.std.specs.List.Sorted.{IsStrictlySortedBy}
use Rattle.std.specs.Cmp.Lexicographic.{slice_cmp}
use Rattle.std.specs.Ordering.{nat_cmp, ordering_then, is_eq, is_lt, is_gt}
use Rattle.std.specs.declared.cmp.Ordering.{Ordering}
use Rattle.siri_outside.specs.declared.rows.Put.{Put}
use Rattle.siri_outside.specs.declared.rows.Row.{Row}
use Rattle.siri_outside.specs.declared.rows.StoredRow.{StoredRow}

-- a table and a key
abbrev pub RowPlace : Type 0
RowPlace = ℕ × List ℕ

-- by table, and then by the bytes of the key
abbrev pub place_cmp : RowPlace → RowPlace → Ordering
place_cmp a b = ordering_then (nat_cmp a.0 b.0) (slice_cmp nat_cmp a.1 b.1)

abbrev pub Rows : Type 0
Rows = List StoredRow

abbrev pub place_of : StoredRow → RowPlace
place_of row = (row.table, row.key)

-- each row is after the one before it, so each table and key stands once
abbrev pub InOrder : Rows → Type 0
InOrder rows = IsStrictlySortedBy place_cmp (map place_of rows)

-- each row is of a table that a byte names
abbrev pub HasByteTables : Rows → Type 0
HasByteTables rows = AllByRecursion (λ place. place.0 < 256) (map place_of rows)

-- the text at a table and a key, where there is one
abbrev pub text_at : Rows → ℕ → List ℕ → Option (List ℕ)
text_at rows table key = option_map (λ row. row.text) (find (λ row. is_eq (place_cmp (place_of row) (table, key))) rows)

-- the rows of a table
abbrev pub of_table : ℕ → Rows → Rows
of_table table rows = filter (λ row. row.table == table) rows

-- ---- what puts make of rows

abbrev pub is_before : Put → StoredRow → Bool
is_before put row = is_lt (place_cmp (place_of row) (put.table, put.key))

abbrev pub is_behind : Put → StoredRow → Bool
is_behind put row = is_gt (place_cmp (place_of row) (put.table, put.key))

-- the row that a put makes, where it makes one
abbrev pub placed_by : ℕ → List ℕ → Option (List ℕ) → Rows
placed_by table key None = []
placed_by table key (Some text) = record { table = table; key = key; text = text } ∷ []

abbrev pub placed : Put → Rows
placed put = placed_by put.table put.key put.text

-- the rows before its place, its own, and those behind it
abbrev pub with_put : Rows → Put → Rows
with_put rows put = filter (is_before put) rows ++ (placed put ++ filter (is_behind put) rows)

-- after puts, one after the other
abbrev pub with_puts : Rows → List Put → Rows
with_puts rows list = fold with_put rows list

-- ---- what comes next

abbrev pub is_above : Option (List ℕ) → List ℕ → Bool
is_above None key = true
is_above (Some after) key = is_gt (slice_cmp nat_cmp key after)

abbrev pub is_next : ℕ → Option (List ℕ) → StoredRow → Bool
is_next table after row = row.table == table && is_above after row.key

-- a row, without its table
abbrev pub row_of : StoredRow → Row
row_of row = record { key = row.key; text = row.text }

-- of rows in order: the row of a table with the least key above one, where there is such a row
abbrev pub next_row : ℕ → Option (List ℕ) → Rows → Option Row
next_row table after rows = option_map row_of (find (is_next table after) rows)

-- ---- inner words, cited by private functions alone

abbrev pub one_if : Bool → StoredRow → Rows
one_if true row = row ∷ []
one_if false row = []
