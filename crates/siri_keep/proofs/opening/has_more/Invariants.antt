use Rattle.std.proofs.Common.{◌≡◌, ◌≤◌}
use Rattle.siri_keep.specs.RowByRow.{Unchanged}
use Rattle.siri_keep.proofs.ReadOn.{SeesNone}
use Rattle.siri_keep.proofs.opening.has_more.Given as goal

-- no table so far has a row
abbrev pub invariant-loop-table : goal.invariant-loop-table
invariant-loop-table g l = record {
  there : g.B.Shelf.is_open l.shelf;
  told : Unchanged (g.B.Shelf.tells l.fn.shelf) (g.B.Shelf.tells l.shelf) (SeesNone l.table);
  counted : g.B.Shelf.faults l.shelf ≡ g.B.Shelf.faults l.fn.shelf;
  later : g.B.Shelf.faults l.fn.shelf ≤ g.B.Shelf.faults l.shelf;
}
