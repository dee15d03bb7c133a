use Rattle.std.proofs.Common.{◌≡◌, ◌≤◌, ◌+◌, ◌-◌, [], map, filter, length, drop}
use Rattle.std.specs.Map.{keys_of}
use Rattle.siri_records.specs.Keyed.{apply}
use Rattle.siri_subscriptions.specs.Again.{is_other, shown_of}
use Rattle.siri_subscriptions.proofs.again.shown_others.Given as goal

-- the items so far, with those of the keys to come, are all, and each key to come is a step at most
abbrev pub invariant-loop-items : goal.invariant-loop-items
invariant-loop-items l = record {
  shown : apply l.items (map (shown_of l.fn.responder l.wanted.topic)
      (filter (is_other l.found) (keys_of (drop l.place l.view))))
      ≡ apply [] (map (shown_of l.fn.responder l.wanted.topic) (filter (is_other l.found) (keys_of l.view)));
  rest : l.responder ≡ record l.fn.responder { reads = l.responder.reads };
  risen : l.fn.responder.reads ≤ l.responder.reads;
  reads : l.responder.reads + length (filter (is_other l.found) (keys_of (drop l.place l.view)))
      ≤ l.fn.responder.reads + length (filter (is_other l.found) (keys_of l.view));
}

abbrev pub decreases-loop-items : goal.decreases-loop-items
decreases-loop-items l = length l.view - l.place
