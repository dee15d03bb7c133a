use Rattle.std.proofs.Common.{arith, ap, sym, ◌∙◌}
use Rattle.std.proofs.lemmas.Map.{lookup-none}
use Rattle.std.specs.Prelude.{is_some}
use mathlib.Core.Bool.{false≢true}
use Rattle.siri_records.specs.Order.{key_cmp, key_cmp_total}
use Rattle.siri_records.specs.Keyed.{entries_view}
use Rattle.siri_records.proofs.Edited.{here_below, gap_within, put_here, put_gap, keys_set, none_held, sorted_gap}
use Rattle.siri_records.proofs.entries.put.Goals as goal

pub replace-requires : goal.replace-requires
replace-requires c = omega (arith, here_below _ _ _ c.in-Ok.ensures)

pub insert-requires : goal.insert-requires
insert-requires c = omega (arith, gap_within _ _ _ c.in-Err.ensures)

pub returns-in-Ok-clause-ok : goal.returns-in-Ok-clause-ok
returns-in-Ok-clause-ok c = ap entries_view c.replace.ensures.items ∙ put_here key_cmp c.args.key _ _ c.args.item (rw c.key.ensures at c.in-Ok.ensures)

pub returns-in-Ok-clause-ordered : goal.returns-in-Ok-clause-ordered
returns-in-Ok-clause-ordered c = rw c.replace.ensures.items (rw keys_set c.requires)

pub returns-in_ok-insert-in-Err-clause-ok : goal.returns-in_ok-insert-in-Err-clause-ok
returns-in_ok-insert-in-Err-clause-ok c = ap entries_view c.in_ok-insert-in-Err.ensures.items ∙ put_gap key_cmp c.args.key _ _ c.args.item (rw c.key.ensures at c.in-Err.ensures)

pub returns-in_ok-insert-in-Err-clause-ordered : goal.returns-in_ok-insert-in-Err-clause-ordered
returns-in_ok-insert-in-Err-clause-ordered c = rw c.in_ok-insert-in-Err.ensures.items
    (sorted_gap key_cmp_total c.args.key c.args.item _ _ c.requires (rw c.key.ensures at c.in-Err.ensures))

pub returns-in_err-insert-in-Err-clause-held : goal.returns-in_err-insert-in-Err-clause-held
returns-in_err-insert-in-Err-clause-held c held =
    let none = lookup-none _ _ (none_held key_cmp_total c.args.key _ _ c.requires (rw c.key.ensures at c.in-Err.ensures)) in
    absurd (false≢true (ap is_some (sym none) ∙ held))
