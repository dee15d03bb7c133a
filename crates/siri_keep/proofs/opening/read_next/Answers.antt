use Rattle.std.proofs.lemmas.Result.{err_from_is_err_and}
use Rattle.siri_keep.specs.RowByRow.{ReachedAfter}
use Rattle.siri_keep.proofs.ReadOn.{row_refused, row_taken, table_ends}
use Rattle.siri_keep.proofs.opening.read_next.Goals as goal

pub returns-in_default-clause-told : goal.returns-in_default-clause-told
returns-in_default-clause-told g c =
    table_ends c.args.table c.args.after.now _ c.args.read.now c.slice_of.ensures c.in_ok-row.field-0 _ _ c.in_ok-row.ensures.told c.in_default.is

pub returns-in_err-take-clause-told : goal.returns-in_err-take-clause-told
returns-in_err-take-clause-told g c =
    let p = err_from_is_err_and c.from_residual-in_err-take.result c.from_residual-in_err-take.ensures.1 in
    rw (p.1, p.2) (row_refused c.args.table c.args.after.now _ c.args.read.now c.slice_of.ensures c.in_ok-row.field-0 _ _ c.in_ok-row.ensures.told
    c.in-Some.row c.in-Some.is (λ rows. ReachedAfter c.args.table rows c.take.new.self) c.take.new.self c.in_err-take.field-0.0 c.in_err-take.ensures)

pub returns-clause-told : goal.returns-clause-told
returns-clause-told g c =
    row_taken c.args.table c.args.after.now _ c.args.read.now c.slice_of.ensures c.in_ok-row.field-0 _ _ c.in_ok-row.ensures.told
    c.in-Some.row c.in-Some.is c.in_ok-copy.field-0 c.take.new.self c.in_ok-copy.ensures c.in_ok-take.ensures
