use Rattle.std.proofs.Common.{◌≡◌, ◌++◌, ◌+◌, ◌-◌, drop, length}
use Rattle.siri_change.specs.Changes.{changes}
use Rattle.siri_change.proofs.difference.changes.Given as goal

-- the changes so far and those from both places on are all
abbrev pub invariant-loop-list : goal.invariant-loop-list
invariant-loop-list l = l.list ++ changes (drop l.old_place l.before) (drop l.new_place l.after) ≡ changes l.before l.after

abbrev pub decreases-loop-list : goal.decreases-loop-list
decreases-loop-list l = (length l.before - l.old_place) + (length l.after - l.new_place)
