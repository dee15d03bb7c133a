use Rattle.std.proofs.Common.{◌≡◌, ◌++◌}
use Rattle.std.specs.List.Sorted.{IsStrictlySortedBy}
use Rattle.std.specs.Map.{keys_of}
use Rattle.siri_records.specs.Keyed.{entries_view}
use Rattle.siri_records.specs.Order.{key_cmp}
use Rattle.siri_responder.proofs.looks.in_order.Given as goal

-- those so far, with those to come, are all, in order of key
abbrev pub invariant-loop-key : goal.invariant-loop-key
invariant-loop-key l = record {
  can_next : (goal.iterator-loop-key).can_next l.key-iterator;
  finite : (goal.iterator-loop-key).is_finite l.key-iterator;
  all : l.items ++ entries_view l.key-iterator ≡ entries_view l.fn.found.entries;
  ordered : IsStrictlySortedBy key_cmp (keys_of (entries_view l.fn.found.entries));
}
