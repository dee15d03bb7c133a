use Rattle.std.proofs.Common.{arith, sym, ap, ◌∙◌, Some}
use Rattle.std.proofs.lemmas.Map.{lookup-none}
use Rattle.siri_records.specs.Order.{key_cmp, key_cmp_total}
use Rattle.siri_records.specs.declared.key.Key.{Key}
use Rattle.siri_records.specs.Keyed.{entries_view}
use Rattle.siri_records.proofs.Order.{key_cmp_exact}
use Rattle.siri_records.proofs.Edited.{Shared, here_below, here_key, lookup_here, none_held, remove_here, remove_none, sorted_remove}
use Rattle.siri_records.proofs.entries.take.Goals as goal

pub remove-requires : goal.remove-requires
remove-requires c = omega (arith, here_below _ _ _ c.in-Ok.ensures)

pub returns-in-Ok-clause-rest : goal.returns-in-Ok-clause-rest
returns-in-Ok-clause-rest c = ap entries_view c.remove.ensures.items ∙ remove_here key_cmp c.args.key.now _ _ c.in-Ok.ensures

pub returns-in-Ok-clause-item : goal.returns-in-Ok-clause-item
returns-in-Ok-clause-item c = ap (λ (e : Key × Shared). Some e.1.value) c.remove.ensures.value
    ∙ sym (lookup_here key_cmp c.args.key.now _ c.in-Ok.at c.remove.result c.in-Ok.ensures)

pub returns-in-Ok-clause-key : goal.returns-in-Ok-clause-key
returns-in-Ok-clause-key c =
    sym (key_cmp_exact c.args.key.now c.remove.result.0 (ap (λ (e : Key × Shared). key_cmp c.args.key.now e.0) c.remove.ensures.value
    ∙ here_key key_cmp c.args.key.now _ c.in-Ok.at c.remove.result c.in-Ok.ensures))

pub returns-in-Ok-clause-ordered : goal.returns-in-Ok-clause-ordered
returns-in-Ok-clause-ordered c = rw c.remove.ensures.items (sorted_remove key_cmp _ c.in-Ok.at c.requires)

pub returns-in-Err-clause-rest : goal.returns-in-Err-clause-rest
returns-in-Err-clause-rest c = sym (remove_none _ _ (none_held key_cmp_total _ _ _ c.requires c.in-Err.ensures))

pub returns-in-Err-clause-item : goal.returns-in-Err-clause-item
returns-in-Err-clause-item c = sym (lookup-none _ _ (none_held key_cmp_total _ _ _ c.requires c.in-Err.ensures))
