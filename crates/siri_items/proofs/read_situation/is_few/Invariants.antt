use Rattle.std.proofs.Common.{◌≡◌, sum_by, ◌+◌, ◌≤◌, drop}
use Rattle.siri_items.proofs.read_situation.is_few.Given as goal

abbrev pub invariant-loop-network : goal.invariant-loop-network
invariant-loop-network l = record {
  told : sum_by (λ n. n.entries) l.networks + l.left ≡ 2000 + sum_by (λ n. n.entries) (drop l.network-index l.networks);
  few : l.left ≤ 2000;
}
