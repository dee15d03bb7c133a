use Rattle.std.proofs.Common.{◌≡◌, ◌++◌, drop}
use Rattle.std.specs.Map.{keys_of}
use Rattle.siri_records.specs.KeyLists.{in_order, with_keys}
use Rattle.siri_subscriptions.proofs.again.keys_apart.Given as goal

-- the keys so far, with those to come, are all
abbrev pub invariant-loop-change : goal.invariant-loop-change
invariant-loop-change l = with_keys l.keys.keys (keys_of (drop l.change-index l.changes) ++ l.left)
    ≡ in_order (keys_of l.changes ++ l.left)

abbrev pub invariant-loop-key : goal.invariant-loop-key
invariant-loop-key l = with_keys l.keys.keys (drop l.key-index l.left) ≡ in_order (keys_of l.changes ++ l.left)
