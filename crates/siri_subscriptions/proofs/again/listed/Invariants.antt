use Rattle.std.proofs.Common.{◌≡◌, ◌++◌}
use Rattle.siri_subscriptions.proofs.again.listed.Given as goal

-- those so far, with those to come, are all
abbrev pub invariant-loop-key : goal.invariant-loop-key
invariant-loop-key l = record {
  can_next : (goal.iterator-loop-key).can_next l.key-iterator;
  finite : (goal.iterator-loop-key).is_finite l.key-iterator;
  all : l.list ++ l.key-iterator ≡ l.fn.keys.keys;
}
