use Rattle.std.proofs.Common.{◌≡◌, ◌++◌, drop, map}
use Rattle.siri_records.specs.Keys.{key_of}
use Rattle.siri_keep.proofs.keys.append_items.Given as goal

abbrev pub invariant-loop-item : goal.invariant-loop-item
invariant-loop-item l = l.into.items ++ map key_of (drop l.item-index l.items) ≡ l.fn.into.items ++ map key_of l.fn.items
