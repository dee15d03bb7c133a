use Rattle.std.proofs.Common.{◌≡◌, Some, option_map, ap, ◌∙◌}
use Rattle.siri_life.specs.Slot.{with_supply}
use Rattle.siri_subs.specs.rounds.Wanted.{RoundsOfChanges}
use Rattle.siri_subs.specs.declared.entry.Row.{Row}
use Rattle.siri_subs.specs.Loans.{with_slot}
use Rattle.siri_subscriptions.specs.declared.course.Course.{Course}
use Rattle.siri_subscriptions.proofs.supplies.supply_part.Goals as goal

pub returns-in-Some : goal.returns-in-Some
returns-in-Some c = λ row there.
    let m = c.args.mark.now in
    let was = c.in-Some.course.now in
    let both : Some was ≡ Some row.slot = c.in-Some.ensures.value ∙ ap (option_map (λ (g : Row Course). g.slot)) there in
    let same : was ≡ row.slot = cc both in
    let put : Course → _ = λ slot. with_slot c.args.table.now c.args.place slot in
    ap (λ (rounds : RoundsOfChanges). put (record was { rounds = rounds })) c.supply.ensures.rounds
    ∙ ap (λ (slot : Course). put (record slot { rounds = with_supply slot.rounds m.round m.part c.args.now })) same
