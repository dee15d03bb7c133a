use Rattle.std.proofs.Common.{◌≡◌, ◌++◌, drop, map, flat_map}
use Rattle.siri_model.specs.History.{entries_in}
use Rattle.siri_model.specs.Last.{entry_key}
use Rattle.siri_keep.proofs.keys.append_named.Given as goal

abbrev pub invariant-loop-delivery : goal.invariant-loop-delivery
invariant-loop-delivery l =
    l.into.items ++ map entry_key (flat_map entries_in (drop l.delivery-index l.deliveries))
    ≡ l.fn.into.items ++ map entry_key (flat_map entries_in l.fn.deliveries)
