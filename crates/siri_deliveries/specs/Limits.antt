-- How much a delivery may have.
use Rattle.std.specs.Prelude.{ℕ}

-- the most entries of one kind
abbrev pub most_entries : ℕ
most_entries = 20000
