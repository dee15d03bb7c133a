use Rattle.std.proofs.Common.{◌≡◌, take}
use Rattle.siri_relay.specs.Named.{changes_to}
use Rattle.siri_relay.proofs.naming.changes_to.Given as goal

abbrev pub invariant-loop-key : goal.invariant-loop-key
invariant-loop-key l = l.list ≡ changes_to (take l.key-index l.keys) l.fn.view
