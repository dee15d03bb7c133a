use Rattle.std.proofs.Common.{◌≡◌, ◌+◌, ◌≤◌, length, vec_len}
use Rattle.std.specs.Vec.{vec_capacity}
use Rattle.std.specs.Vec.Iter.{into_iter_items}
use Rattle.siri_records.specs.Keyed.{InOrder, entries_view, apply}
use Rattle.siri_records.proofs.keyed.KeyedItems.change_within.Given as goal

-- what is left leads to where the whole list does, and there is room for it
abbrev pub invariant-loop-change : goal.invariant-loop-change
invariant-loop-change l = record {
  can_next : (goal.iterator-loop-change).can_next l.change-iterator;
  is_finite : (goal.iterator-loop-change).is_finite l.change-iterator;
  leads : apply (entries_view l.self-inside.entries.items) (into_iter_items l.change-iterator) ≡ apply l.fn.self l.fn.list;
  ordered : InOrder l.self-inside.entries.items;
  room : vec_len l.self-inside.entries + length (into_iter_items l.change-iterator) ≤ vec_capacity l.self-inside.entries;
}
