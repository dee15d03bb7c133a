use Rattle.std.proofs.Common.{◌≡◌, ◌+◌, drop}
use Rattle.std.specs.Prelude.{nat_le}
use Rattle.siri_doors.specs.Decisions.{held}
use Rattle.siri_doors.proofs.waiting.Waiting.has_room.Given as goal

-- those from here on have so much room left
abbrev pub invariant-loop-gathered : goal.invariant-loop-gathered
invariant-loop-gathered l =
    nat_le (held (drop l.gathered-index l.gathered-items)) l.left ≡ nat_le (held l.gathered-items + l.more) 67108864
