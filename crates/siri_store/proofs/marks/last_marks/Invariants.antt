use Rattle.std.proofs.Common.{◌≡◌, ◌≤◌, length, drop}
use Rattle.siri_records.specs.declared.key.Key.{Key}
use Rattle.siri_records.specs.KeyLists.{is_among}
use Rattle.siri_store.specs.Marked.{last_of_each}
use Rattle.siri_store.proofs.Lasting.{keys_in}
use Rattle.siri_store.proofs.marks.last_marks.Given as goal

-- of those from the place on each key was seen, and the last mark of each stands there
abbrev pub invariant-loop-place : goal.invariant-loop-place
invariant-loop-place l = record {
  log : l.log ≡ l.fn.log;
  within : l.place ≤ length l.fn.log.items;
  last : l.last.items ≡ last_of_each (drop l.place l.fn.log.items);
  seen : (q : Key) → is_among q l.seen.keys ≡ is_among q (keys_in (drop l.place l.fn.log.items));
}

abbrev pub decreases-loop-place : goal.decreases-loop-place
decreases-loop-place l = l.place
