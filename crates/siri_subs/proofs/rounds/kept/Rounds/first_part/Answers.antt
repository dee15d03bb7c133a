use Rattle.std.proofs.Common.{◌≡◌, suc, ◌+◌, ◌<◌, None, Some, option_map, ap, sym, ◌∙◌, add-one, arith}
use Rattle.siri_change.specs.Parts.{parts_count}
use Rattle.siri_life.specs.Slot.{begun}
use Rattle.siri_subs.specs.rounds.Wanted.{part_carried, part_lent, wanted_part_of, round_on}
use Rattle.siri_subs.proofs.Carriage.{wanted_carried}
use Rattle.siri_subs.proofs.Parted.{wanted_lent}
use Rattle.siri_subs.proofs.rounds.kept.Rounds.first_part.Goals as goal

pub returns-clause-part : goal.returns-clause-part
returns-clause-part c wanted =
    let kept = c.self.inside in
    let list = c.args.list.now in
    let s = c.args.self.now in
    let some : 0 < parts_count list = omega arith in
    let next : kept.last + 1 ≡ suc s.rounds_opened = add-one kept.last ∙ ap (λ t. suc t.rounds_opened) c.self.view_is in
    wanted_lent (part_lent c.part_at.result) (kept.last + 1) 0 c.args.now s.acknowledged wanted list c.slice.result.now
    None c.part_at.ensures c.slice.ensures some
    ∙ ap (λ n. wanted_part_of n (Some (record { round = round_on s.acknowledged c.args.now wanted list; acknowledged_parts = 0; last_sent = None }))) next

pub returns-clause-sent : goal.returns-clause-sent
returns-clause-sent c wanted =
    let s = c.args.self.now in
    ap (option_map part_carried) (returns-clause-part c wanted) ∙ sym (wanted_carried (begun s (round_on s.acknowledged c.args.now wanted c.args.list.now)))
