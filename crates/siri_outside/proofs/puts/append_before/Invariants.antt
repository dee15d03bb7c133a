use Rattle.std.proofs.Common.{◌≡◌, ◌++◌, drop}
use Rattle.std.specs.List.{filter}
use Rattle.siri_outside.specs.Rows.{is_before}
use Rattle.siri_outside.proofs.puts.append_before.Given as goal

-- those so far, and those of the rows from here on, are all
abbrev pub invariant-loop-row : goal.invariant-loop-row
invariant-loop-row l =
    l.into.items ++ filter (is_before l.put) (drop l.row-index l.rows) ≡ l.fn.into.items ++ filter (is_before l.put) l.rows
