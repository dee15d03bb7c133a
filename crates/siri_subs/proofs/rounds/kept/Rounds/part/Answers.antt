use Rattle.std.proofs.Common.{Some, option_map, subst, ap, sym, ◌∙◌}
use Rattle.siri_change.specs.Parts.{led_to}
use Rattle.siri_subs.specs.rounds.Kept.{IsOpen, outstanding_on}
use Rattle.siri_subs.specs.rounds.Wanted.{part_carried, part_lent, wanted_part, wanted_part_of}
use Rattle.siri_subs.proofs.Carriage.{wanted_carried}
use Rattle.siri_subs.proofs.Parted.{wanted_lent}
use Rattle.siri_subs.proofs.rounds.kept.Rounds.part.Goals as goal

pub returns-in-Some-clause-part : goal.returns-in-Some-clause-part
returns-in-Some-clause-part c =
    let kept = c.self.inside in
    let o = c.in-Some.round in
    let wanting : IsOpen kept.acknowledged (Some o) = subst (IsOpen kept.acknowledged) c.in-Some.is c.self.invariant in
    wanted_lent (part_lent c.part_at.result) kept.last o.acknowledged_parts o.moment kept.acknowledged (led_to kept.acknowledged o.incremental o.changes)
    o.changes c.slice-changes.result.now o.last_sent c.part_at.ensures c.slice-changes.ensures wanting.part
    ∙ (ap (λ r. wanted_part_of kept.last (option_map (outstanding_on kept.acknowledged) r)) (sym c.in-Some.is)
    ∙ ap wanted_part c.self.view_is)

pub returns-in-Some-clause-sent : goal.returns-in-Some-clause-sent
returns-in-Some-clause-sent c = ap (option_map part_carried) (returns-in-Some-clause-part c) ∙ sym (wanted_carried c.args.self.now)
