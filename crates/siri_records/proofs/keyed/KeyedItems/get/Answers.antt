use Rattle.std.proofs.Common.{arith, sym, ap, ◌∙◌, Some}
use Rattle.std.proofs.lemmas.Map.{lookup-none}
use Rattle.siri_records.specs.Order.{key_cmp, key_cmp_total}
use Rattle.siri_records.specs.declared.key.Key.{Key}
use Rattle.siri_records.proofs.Edited.{Shared, here_below, lookup_here, none_held}
use Rattle.siri_records.proofs.keyed.KeyedItems.get.Goals as goal

pub index-requires : goal.index-requires
index-requires c = omega (arith, here_below _ _ _ c.in-Ok.ensures)

pub returns-in-Ok : goal.returns-in-Ok
returns-in-Ok c = rw (← c.self.view_is) (ap (λ (e : Key × Shared). Some e.1.value) c.index.ensures
    ∙ sym (lookup_here key_cmp c.args.key.now c.self.inside.entries.items c.in-Ok.at c.index.result.now
    c.in-Ok.ensures))

pub returns-in-Err : goal.returns-in-Err
returns-in-Err c = rw (← c.self.view_is) (sym (lookup-none _ _ (none_held key_cmp_total _ _ _ c.self.invariant c.in-Err.ensures)))
