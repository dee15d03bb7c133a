use Rattle.std.proofs.Common.{arith, sym, ap, ◌∙◌, Some, option_map}
use Rattle.std.proofs.lemmas.Map.{lookup-none}
use Rattle.siri_records.specs.Order.{key_cmp, key_cmp_total}
use Rattle.siri_records.specs.declared.key.Key.{Key}
use Rattle.siri_records.specs.declared.item.Item.{Item}
use Rattle.siri_records.proofs.Edited.{Shared, here_below, here_key, lookup_here, none_held}
use Rattle.siri_records.proofs.Order.{key_cmp_exact}
use Rattle.siri_records.proofs.keyed.KeyedItems.find.Goals as goal

pub index-requires : goal.index-requires
index-requires c = omega (arith, here_below _ _ _ c.in-Ok.ensures)

pub returns-in-Ok : goal.returns-in-Ok
returns-in-Ok c =
    let es = c.self.inside.entries.items in
    let e = c.index.result.now in
    let key = sym (key_cmp_exact c.args.key.now e.0 (ap (λ (x : Key × Shared). key_cmp c.args.key.now x.0) c.index.ensures ∙ here_key key_cmp c.args.key.now es c.in-Ok.at e c.in-Ok.ensures)) in
    let item = ap (λ (x : Key × Shared). x.1.value) c.index.ensures in
    rw (← c.self.view_is) ((λ i. Some (key i, item i))
    ∙ sym (ap (option_map (λ (x : Item). (c.args.key.now, x))) (lookup_here key_cmp c.args.key.now es c.in-Ok.at e c.in-Ok.ensures)))

pub returns-in-Err : goal.returns-in-Err
returns-in-Err c = rw (← c.self.view_is) (sym (ap (option_map (λ (x : Item). (c.args.key.now, x))) (lookup-none _ _ (none_held key_cmp_total _ _ _ c.self.invariant c.in-Err.ensures))))
