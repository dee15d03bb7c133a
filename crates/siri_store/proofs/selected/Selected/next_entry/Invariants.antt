use Rattle.std.proofs.Common.{◌≡◌, ◌-◌, ◌≤◌, max}
use Rattle.siri_store.specs.Held.{counted}
use Rattle.siri_store.specs.Walk.{entries_to_lend}
use Rattle.siri_store.proofs.selected.Selected.next_entry.Given as goal

-- the items passed over so far are counted, and none of them is shown
abbrev pub invariant-loop-self : goal.invariant-loop-self
invariant-loop-self l = record {
  same : entries_to_lend l.self ≡ entries_to_lend l.fn.self;
  onward : l.fn.self.place ≤ l.self.place;
  within : l.self.place ≤ max l.fn.self.place l.fn.self.end;
  counter : l.self.counter.now ≡ counted l.fn.self.counter.now (l.self.place - l.fn.self.place);
  name : l.self.counter.ghost_name ≡ l.fn.self.counter.ghost_name;
  topic : l.self.topic.now ≡ l.fn.self.topic.now;
  moment : l.self.moment ≡ l.fn.self.moment;
  entries : l.self.entries.now ≡ l.fn.self.entries.now;
  end : l.self.end ≡ l.fn.self.end;
}

abbrev pub decreases-loop-self : goal.decreases-loop-self
decreases-loop-self l = l.self.end - l.self.place
