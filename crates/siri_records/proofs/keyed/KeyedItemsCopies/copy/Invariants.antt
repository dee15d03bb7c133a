use Rattle.std.proofs.Common.{◌≡◌, take}
use Rattle.siri_records.specs.Keyed.{entries_view}
use Rattle.siri_records.proofs.keyed.KeyedItemsCopies.copy.Given as goal

-- the entries so far are copied
abbrev pub invariant-loop-entry : goal.invariant-loop-entry
invariant-loop-entry l = entries_view l.entries.items ≡ take l.entry-index (entries_view l.entry-items)
