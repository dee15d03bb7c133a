use Rattle.std.proofs.Common.{◌≡◌, drop, find}
use Rattle.siri_outside.specs.Rows.{is_next}
use Rattle.siri_outside.specs.Shelves.{key_after}
use Rattle.siri_outside.proofs.following.next_row.Given as goal

-- none of the rows so far is the one
abbrev pub invariant-loop-row : goal.invariant-loop-row
invariant-loop-row l =
    let is = is_next l.table (key_after l.after) in
    find is (drop l.row-index l.rows) ≡ find is l.rows
