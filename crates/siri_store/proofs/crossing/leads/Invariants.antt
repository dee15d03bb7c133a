use Rattle.std.proofs.Common.{◌≡◌}
use Rattle.std.specs.Prelude.{pos}
use Rattle.std.specs.List.{list_any}
use Rattle.siri_records.specs.Edges.{is_within, has_edge}
use Rattle.siri_store.proofs.crossing.leads.Given as goal

-- none of the edges so far lies in the range before the one
abbrev pub invariant-loop-one : goal.invariant-loop-one
invariant-loop-one l = record {
  left : list_any (is_within l.from (pos l.edge)) l.one-iterator ≡ has_edge l.from (pos l.edge) l.item;
}
