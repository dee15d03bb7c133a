use Rattle.std.proofs.Common.{◌≡◌, ◌≤◌, None}
use Rattle.siri_keep.specs.RowByRow.{Reached, Unchanged}
use Rattle.siri_keep.proofs.opening.read_tables.Given as goal

-- all tables so far were read
abbrev pub invariant-loop-table : goal.invariant-loop-table
invariant-loop-table g l = record {
  there : g.B.Shelf.is_open l.shelf;
  told : Unchanged (g.B.Shelf.tells l.fn.shelf) (g.B.Shelf.tells l.shelf)
      (λ rows. Reached 1 None rows l.fn.read → Reached l.table None rows l.read);
  counted : g.B.Shelf.faults l.shelf ≡ g.B.Shelf.faults l.fn.shelf;
  later : g.B.Shelf.faults l.fn.shelf ≤ g.B.Shelf.faults l.shelf;
}
