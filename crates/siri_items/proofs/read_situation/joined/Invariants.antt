use Rattle.std.proofs.Common.{◌≡◌, flat_map, ◌++◌}
use Rattle.siri_items.proofs.read_situation.joined.Given as goal

abbrev pub invariant-loop-network : goal.invariant-loop-network
invariant-loop-network l = l.lines.items ++ flat_map (λ n. n.lines) l.network-iterator.rest.items ≡ flat_map (λ n. n.lines) l.fn.networks
