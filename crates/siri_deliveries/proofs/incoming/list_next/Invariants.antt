use Rattle.std.proofs.Common.{◌≡◌, ℕ, ◌-◌, ◌≤◌, length}
use Rattle.json.specs.Json.{Items, items, value, parse_map}
use Rattle.siri_deliveries.proofs.AsItComes.{items_before, AreRead}
use Rattle.siri_deliveries.proofs.incoming.list_next.Given as goal

abbrev pub invariant-loop-alloc : goal.invariant-loop-alloc
invariant-loop-alloc g l =
    (n : ℕ) × (before : Items) × (length l.reader ≤ n)
    × (items (value (l.depth - 1)) (length l.initial.reader) l.initial.reader ≡ parse_map (items_before before) (items (value (l.depth - 1)) n l.reader))
    × AreRead g.T.Table.rows before l.found.items × (length l.found.items ≤ l.most) × (length l.reader ≤ length l.initial.reader)

abbrev pub decreases-loop-alloc : goal.decreases-loop-alloc
decreases-loop-alloc g l = length l.reader
