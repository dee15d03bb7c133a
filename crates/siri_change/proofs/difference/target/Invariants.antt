use Rattle.std.proofs.Common.{◌≡◌, ◌-◌, map, take, length}
use Rattle.siri_records.specs.Keyed.{item_of}
use Rattle.siri_change.specs.Changes.{acknowledged_if_near}
use Rattle.siri_change.proofs.difference.target.Given as goal

-- the items so far, each kept or new
abbrev pub invariant-loop-target : goal.invariant-loop-target
invariant-loop-target l = l.target ≡ map (λ entry. (entry.0, acknowledged_if_near l.slack (item_of l.acknowledged entry.0) entry.1)) (take l.place l.direct)

abbrev pub decreases-loop-target : goal.decreases-loop-target
decreases-loop-target l = length l.direct - l.place
