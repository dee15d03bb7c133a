use Rattle.std.proofs.Common.{◌≡◌, ◌++◌, drop}
use Rattle.std.specs.Map.{keys_of}
use Rattle.siri_subscriptions.proofs.limited.keys_in.Given as goal

-- the keys so far, with those to come, are all
abbrev pub invariant-loop-change : goal.invariant-loop-change
invariant-loop-change l = l.keys ++ keys_of (drop l.change-index l.changes) ≡ keys_of l.changes
