use Rattle.std.proofs.Common.{arith, ap, sym, subst, ◌∙◌}
use Rattle.std.proofs.lemmas.Map.{lookup-none}
use Rattle.std.proofs.lemmas.Cmp.{nat_list_cmp_total}
use Rattle.std.proofs.lemmas.Result.{on_ok_weaker}
use Rattle.siri_records.proofs.Edited.{here_below}
use Rattle.siri_view.specs.Kept.{kept_of}
use Rattle.siri_view.specs.Marks.{mark_by}
use Rattle.siri_view.specs.Places.{Wants, with_taken}
use Rattle.siri_view.proofs.Keyed.{none_at}
use Rattle.siri_view.proofs.Places.{kept_here, taken_here}
use Rattle.siri_view.proofs.holdings.Holdings.take.Goals as goal

pub take_at-requires-clause-place : goal.take_at-requires-clause-place
take_at-requires-clause-place c = omega (arith, here_below _ _ _ c.in-Ok.ensures)

pub take_at-requires-clause-wanted : goal.take_at-requires-clause-wanted
take_at-requires-clause-wanted c =
    rw (kept_here c.args.identifier.now c.self.inside.entries.items c.in-Ok.at c.in-Ok.ensures)
    (subst (λ held. Wants (mark_by c.args.mark) (kept_of c.args.identifier.now held)) (sym c.self.view_is) c.requires.wanted)

pub invariant_of-self : goal.invariant_of-self
invariant_of-self c = rw c.take_at.ensures.keys c.self.invariant

pub returns-in-Ok-clause-ok : goal.returns-in-Ok-clause-ok
returns-in-Ok-clause-ok c =
    rw (← c.self.view_is)
    (on_ok_weaker c.take_at.result (λ is. is ∙ taken_here
    (mark_by c.args.mark) c.args.more c.args.part c.args.identifier.now c.self.inside.entries.items c.in-Ok.at
    c.in-Ok.ensures) c.take_at.ensures.ok)

pub returns-in-Err-clause-ok : goal.returns-in-Err-clause-ok
returns-in-Err-clause-ok c =
    rw (← c.self.view_is)
    (sym (ap (λ kept. with_taken c.args.identifier.now (mark_by c.args.mark) c.args.more c.args.part kept
    c.self.inside.entries.items) (lookup-none _ _
    (none_at nat_list_cmp_total _ _ _ c.self.invariant c.in-Err.ensures))))
