use Rattle.std.proofs.Common.{arith, sym, ap, ◌∙◌, Some}
use Rattle.std.proofs.lemmas.Map.{lookup-none}
use Rattle.std.proofs.lemmas.Cmp.{nat_list_cmp_total}
use Rattle.siri_records.proofs.Edited.{here_below}
use Rattle.siri_life.specs.Named.{Name}
use Rattle.siri_view.specs.Kept.{HeldSubscription, name_cmp}
use Rattle.siri_view.proofs.Keyed.{lookup_at, put_same, none_at}
use Rattle.siri_view.proofs.holdings.Holdings.get.Goals as goal

pub index-requires : goal.index-requires
index-requires c = omega (arith, here_below _ _ _ c.in-Ok.ensures)

pub returns-in-Ok-clause-kept : goal.returns-in-Ok-clause-kept
returns-in-Ok-clause-kept c = rw (← c.self.view_is)
    (ap (λ (e : Name × HeldSubscription). Some e.1) c.index.ensures
    ∙ sym (lookup_at name_cmp c.args.identifier.now c.self.inside.entries.items c.in-Ok.at c.index.result.now
    c.in-Ok.ensures))

pub returns-in-Ok-clause-same : goal.returns-in-Ok-clause-same
returns-in-Ok-clause-same c = rw (← c.self.view_is)
    (put_same name_cmp c.args.identifier.now c.self.inside.entries.items c.in-Ok.at c.index.result.now c.in-Ok.ensures
    (here_below _ _ _ c.in-Ok.ensures) c.index.ensures)

pub returns-in-Err-clause-kept : goal.returns-in-Err-clause-kept
returns-in-Err-clause-kept c = rw (← c.self.view_is) (sym (lookup-none _ _ (none_at nat_list_cmp_total _ _ _ c.self.invariant c.in-Err.ensures)))
