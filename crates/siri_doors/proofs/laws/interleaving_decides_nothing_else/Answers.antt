use Rattle.std.proofs.Common.{List, [], map, sym, ap, ◌∙◌}
use Rattle.siri_doors.specs.Decisions.{turns}
use Rattle.siri_doors.specs.Gathered.{Asking}
use Rattle.siri_doors.specs.Gathers.{as_read}
use Rattle.siri_doors.proofs.Orders.{same_list}
use Rattle.siri_doors.proofs.Slots.{by_slot}
use Rattle.siri_doors.proofs.laws.interleaving_decides_nothing_else.Goals as goal

pub returns : goal.returns
returns c whole doors one two same =
    ap (λ (list : List Asking). record doors.line { to_accept = map as_read list; accept_fails = [] })
    (same_list (turns whole one) (turns whole two)
    (λ slot. by_slot slot whole [] one same.room_of_one ∙ ap (turns whole) (same.events slot) ∙ sym (by_slot slot whole [] two same.room_of_two))
    same.order)
