use Rattle.std.proofs.Common.{◌≡◌, ◌++◌, take}
use Rattle.std.specs.Prelude.{map}
use Rattle.siri_records.specs.Keys.{key_of}
use Rattle.siri_relay.proofs.naming.push_item_keys.Given as goal

abbrev pub invariant-loop-item : goal.invariant-loop-item
invariant-loop-item l = l.into ≡ l.fn.into ++ map key_of (take l.item-index l.items)
