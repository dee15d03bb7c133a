use Rattle.std.proofs.Common.{◌≡◌, ◌-◌, drop, length}
use Rattle.siri_change.specs.Changes.{meets}
use Rattle.siri_change.proofs.difference.differ.Given as goal

-- the entries so far have one key and near items
abbrev pub invariant-loop-held : goal.invariant-loop-held
invariant-loop-held l = meets l.slack (drop l.place l.view) (drop l.place l.wanted) ≡ meets l.slack l.view l.wanted

abbrev pub decreases-loop-held : goal.decreases-loop-held
decreases-loop-held l = length l.view - l.place
