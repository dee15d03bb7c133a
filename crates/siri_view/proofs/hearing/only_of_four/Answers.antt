use Rattle.std.proofs.Common.{◌≡◌, ◌+◌, length, arith}
use Rattle.siri_view.proofs.Only.{of_four}
use Rattle.siri_view.proofs.hearing.only_of_four.Goals as goal

pub returns-in_default : goal.returns-in_default
returns-in_default c =
    of_four c.args.stops c.args.timetables c.args.vehicles c.args.situations
    (λ (one : length c.args.stops + length c.args.timetables + length c.args.vehicles
    + length c.args.situations ≡ 1). absurd
    (grind (arith, c.in_default.branch, c.len.ensures, c.len-2.ensures, c.len-3.ensures, c.len-4.ensures)))
