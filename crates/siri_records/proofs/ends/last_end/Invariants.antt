use Rattle.std.proofs.Common.{◌≡◌, map, take, is_none, false}
use Rattle.std.specs.List.{list_any}
use Rattle.siri_records.specs.Ends as ends
use Rattle.siri_records.proofs.ends.last_end.Given as goal

abbrev pub invariant-loop-period : goal.invariant-loop-period
invariant-loop-period l = (l.last ≡ ends.greatest (map (λ p. p.end_time) (take l.period-index l.periods)))
    × (list_any (λ p. is_none p.end_time) (take l.period-index l.periods) ≡ false)
