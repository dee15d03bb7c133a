use Rattle.std.proofs.Common.{◌≡◌, ◌≤◌, ◌+◌, ◌++◌, length}
use Rattle.siri_model.specs.Looks.{found_of}
use Rattle.siri_responder.proofs.looks.found.Given as goal

-- those so far, with those to come, are all, and each was at most a step
abbrev pub invariant-loop-key : goal.invariant-loop-key
invariant-loop-key l = record {
  can_next : (goal.iterator-loop-key).can_next l.key-iterator;
  finite : (goal.iterator-loop-key).is_finite l.key-iterator;
  found : l.found ++ found_of l.fn.store.entries l.key-iterator ≡ found_of l.fn.store.entries l.fn.keys.keys;
  rest : l.store ≡ record l.fn.store { reads = l.store.reads };
  risen : l.fn.store.reads ≤ l.store.reads;
  reads : l.store.reads + length l.key-iterator ≤ l.fn.store.reads + length l.fn.keys.keys;
}
