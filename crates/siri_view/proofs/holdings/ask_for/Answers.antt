use Rattle.std.proofs.Common.{arith, ap, sym, ◌∙◌}
use Rattle.std.proofs.lemmas.Map.{lookup-none}
use Rattle.std.proofs.lemmas.Cmp.{nat_list_cmp_total}
use Rattle.siri_records.proofs.Edited.{here_below, gap_within, sorted_gap}
use Rattle.siri_life.specs.Link.{asked}
use Rattle.siri_view.specs.Kept.{meaning, name_cmp, with_kept}
use Rattle.siri_view.proofs.Keyed.{put_in, none_at}
use Rattle.siri_view.proofs.Places.{asked_here}
use Rattle.siri_view.proofs.holdings.ask_for.Goals as goal

pub ask_at-requires : goal.ask_at-requires
ask_at-requires c = omega (arith, here_below _ _ _ c.in-Ok.ensures)

pub insert-requires : goal.insert-requires
insert-requires c = omega (arith, gap_within _ _ _ c.in-Err.ensures)

pub returns-in-Ok-clause-ok : goal.returns-in-Ok-clause-ok
returns-in-Ok-clause-ok c = c.ask_at.ensures.items ∙ asked_here c.args.number c.args.asked c.args.identifier _ _ c.in-Ok.ensures

pub returns-in-Ok-clause-ordered : goal.returns-in-Ok-clause-ordered
returns-in-Ok-clause-ordered c = rw c.ask_at.ensures.keys c.requires.ordered

pub returns-in_ok-insert-in-Err-clause-ok : goal.returns-in_ok-insert-in-Err-clause-ok
returns-in_ok-insert-in-Err-clause-ok c =
    c.in_ok-insert-in-Err.ensures.items
    ∙ (put_in name_cmp c.args.identifier c.args.entries.now.items c.in-Err.at c.new-kept.result c.in-Err.ensures
    ∙ ap (λ kept. with_kept c.args.identifier kept c.args.entries.now.items)
    (c.new-kept.ensures ∙ ap (asked meaning c.args.number c.args.asked)
    (sym (lookup-none _ _ (none_at nat_list_cmp_total _ _ _ c.requires.ordered c.in-Err.ensures)))))

pub returns-in_ok-insert-in-Err-clause-ordered : goal.returns-in_ok-insert-in-Err-clause-ordered
returns-in_ok-insert-in-Err-clause-ordered c = rw c.in_ok-insert-in-Err.ensures.items
    (sorted_gap nat_list_cmp_total c.args.identifier _ _ _ c.requires.ordered c.in-Err.ensures)
