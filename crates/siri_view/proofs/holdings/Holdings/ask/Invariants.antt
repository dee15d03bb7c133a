use Rattle.std.proofs.Common.{◌≡◌, ◌+◌, ◌≤◌, length, vec_len}
use Rattle.std.specs.Prelude.{fold}
use Rattle.std.specs.Vec.{vec_capacity}
use Rattle.std.specs.Vec.Iter.{into_iter_items}
use Rattle.std.specs.List.Sorted.{IsStrictlySortedBy}
use Rattle.std.specs.Map.{keys_of}
use Rattle.siri_view.specs.Consuming.{with_request}
use Rattle.siri_view.specs.Kept.{name_cmp}
use Rattle.siri_view.proofs.holdings.Holdings.ask.Given as goal

-- what is left leads to where all of them do, and there is room for it
abbrev pub invariant-loop-identifier : goal.invariant-loop-identifier
invariant-loop-identifier l = record {
  can_next : (goal.iterator-loop-identifier).can_next l.identifier-iterator;
  is_finite : (goal.iterator-loop-identifier).is_finite l.identifier-iterator;
  leads : fold (with_request l.fn.number) l.self-inside.entries.items (into_iter_items l.identifier-iterator) ≡ fold
      (with_request l.fn.number) l.fn.self l.fn.requests.items;
  ordered : IsStrictlySortedBy name_cmp (keys_of l.self-inside.entries.items);
  room : vec_len l.self-inside.entries + length (into_iter_items l.identifier-iterator) ≤ vec_capacity l.self-inside.entries;
}
