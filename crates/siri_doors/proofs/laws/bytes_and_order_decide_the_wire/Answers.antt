use Rattle.std.proofs.Common.{List, [], map, ap}
use Rattle.siri_doors.specs.Decisions.{turns}
use Rattle.siri_doors.specs.Gathered.{Asking}
use Rattle.siri_doors.specs.Gathers.{as_read}
use Rattle.siri_doors.proofs.Orders.{same_list}
use Rattle.siri_doors.proofs.laws.bytes_and_order_decide_the_wire.Goals as goal

pub returns : goal.returns
returns c whole doors one two same =
    ap (λ (list : List Asking). record doors.line { to_accept = map as_read list; accept_fails = [] }) (same_list (turns whole one) (turns whole two) same.bytes same.order)
