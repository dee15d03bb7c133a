use Rattle.std.proofs.Common.{arith, sym, ◌∙◌}
use Rattle.std.proofs.lemmas.Cmp.{nat_list_cmp_total}
use Rattle.siri_records.proofs.Edited.{here_below, sorted_remove}
use Rattle.siri_view.specs.Kept.{name_cmp}
use Rattle.siri_view.proofs.Keyed.{none_at, remove_at, remove_none}
use Rattle.siri_view.proofs.holdings.Holdings.remove.Goals as goal

pub remove-requires : goal.remove-requires
remove-requires c = omega (arith, here_below _ _ _ c.in-Ok.ensures)

pub invariant_of-self : goal.invariant_of-self
invariant_of-self c = rw c.remove.ensures.items (sorted_remove name_cmp _ c.in-Ok.at c.self.invariant)

pub returns-in-Ok : goal.returns-in-Ok
returns-in-Ok c = rw (← c.self.view_is) (c.remove.ensures.items ∙ remove_at name_cmp c.args.identifier.now _ _ c.in-Ok.ensures)

pub returns-in-Err : goal.returns-in-Err
returns-in-Err c = rw (← c.self.view_is) (sym (remove_none _ _ (none_at nat_list_cmp_total _ _ _ c.self.invariant c.in-Err.ensures)))
