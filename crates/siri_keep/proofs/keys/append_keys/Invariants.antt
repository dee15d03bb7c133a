use Rattle.std.proofs.Common.{◌≡◌, ◌++◌, drop}
use Rattle.siri_keep.proofs.keys.append_keys.Given as goal

abbrev pub invariant-loop-key : goal.invariant-loop-key
invariant-loop-key l = l.into.items ++ drop l.key-index l.keys ≡ l.fn.into.items ++ l.fn.keys
