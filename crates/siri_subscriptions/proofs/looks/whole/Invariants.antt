use Rattle.std.proofs.Common.{◌≡◌, ◌++◌, ◌-◌, drop, length}
use Rattle.siri_change.specs.Parts.{whole}
use Rattle.siri_subscriptions.proofs.looks.whole.Given as goal

-- the changes so far, and those of the entries from this place on, are all
abbrev pub invariant-loop-list : goal.invariant-loop-list
invariant-loop-list l = l.list ++ whole (drop l.place l.view) ≡ whole l.view

abbrev pub decreases-loop-list : goal.decreases-loop-list
decreases-loop-list l = length l.view - l.place
