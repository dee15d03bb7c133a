use Rattle.std.proofs.Common.{◌≡◌, ◌++◌, drop, filter}
use Rattle.siri_subscriptions.specs.Again.{is_other}
use Rattle.siri_subscriptions.proofs.touched.others.Given as goal

abbrev pub invariant-loop-key : goal.invariant-loop-key
invariant-loop-key l = l.others ++ filter (is_other l.found) (drop l.key-index l.keys)
    ≡ filter (is_other l.found) l.keys
