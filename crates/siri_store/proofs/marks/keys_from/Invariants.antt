use Rattle.std.proofs.Common.{◌≡◌, ◌≤◌, ◌-◌, length, drop, map, fold}
use Rattle.std.specs.BTreeSet.{insert_key}
use Rattle.siri_records.specs.Order.{key_cmp}
use Rattle.siri_records.specs.KeyLists.{in_order}
use Rattle.siri_store.proofs.marks.keys_from.Given as goal

-- the keys so far, with those to come, are those of the marks
abbrev pub invariant-loop-place : goal.invariant-loop-place
invariant-loop-place l = record {
  keys : fold (insert_key key_cmp) l.keys.keys (map (λ mark. mark.1) (drop l.place l.fn.log.items))
      ≡ in_order (map (λ mark. mark.1) (drop l.fn.first l.fn.log.items));
  log : l.log ≡ l.fn.log;
  within : l.place ≤ length l.fn.log.items;
}

abbrev pub decreases-loop-place : goal.decreases-loop-place
decreases-loop-place l = length l.fn.log.items - l.place
