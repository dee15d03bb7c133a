use Rattle.std.proofs.Common.{◌≡◌, ◌++◌, ◌+◌, ◌-◌, fold, length}
use Rattle.siri_subscriptions.specs.Again.{with_held}
use Rattle.siri_subscriptions.proofs.Merged.{merging}
use Rattle.siri_subscriptions.proofs.touched.merged.Given as goal

-- the list so far, and what is left to merge from both places on, is all
abbrev pub invariant-loop-list : goal.invariant-loop-list
invariant-loop-list l = l.list ++ merging l.found l.items l.place l.next ≡ fold with_held l.found l.items

abbrev pub decreases-loop-list : goal.decreases-loop-list
decreases-loop-list l = (length l.found - l.place) + (length l.items - l.next)
