use Rattle.std.proofs.Common.{◌≡◌, ◌≤◌}
use Rattle.siri_keep.specs.RowByRow.{Reached, Unchanged}
use Rattle.siri_keep.proofs.opening.read_table.Given as goal

-- all rows up to the last key were read
abbrev pub invariant-loop : goal.invariant-loop
invariant-loop g l = record {
  there : g.B.Shelf.is_open l.shelf;
  told : Unchanged (g.B.Shelf.tells l.fn.shelf) (g.B.Shelf.tells l.shelf)
      (λ rows. Reached l.table l.fn.first rows l.fn.read → Reached l.table l.after rows l.read);
  counted : g.B.Shelf.faults l.shelf ≡ g.B.Shelf.faults l.fn.shelf;
  later : g.B.Shelf.faults l.fn.shelf ≤ g.B.Shelf.faults l.shelf;
}
