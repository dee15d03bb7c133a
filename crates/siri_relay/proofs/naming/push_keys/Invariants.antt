use Rattle.std.proofs.Common.{◌≡◌, ◌++◌, take}
use Rattle.siri_relay.proofs.naming.push_keys.Given as goal

abbrev pub invariant-loop-key : goal.invariant-loop-key
invariant-loop-key l = l.into ≡ l.fn.into ++ take l.key-index l.keys
