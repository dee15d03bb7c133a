use Rattle.std.proofs.Common.{◌≡◌, map, take, Some}
use Rattle.siri_records.specs.Ends as ends
use Rattle.siri_records.proofs.ends.first_start.Given as goal

abbrev pub invariant-loop-period : goal.invariant-loop-period
invariant-loop-period l = l.first ≡ ends.least (map (λ p. Some p.start_time) (take l.period-index l.periods))
