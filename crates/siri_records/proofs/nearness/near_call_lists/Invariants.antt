use Rattle.std.proofs.Common.{◌≡◌, length}
use Rattle.std.specs.Cmp.Lexicographic.{pointwise}
use Rattle.std.specs.Iterator.Adapters.{zip_first, zip_second}
use Rattle.std.specs.Slice.Iter.{iter_rest}
use Rattle.siri_records.specs.Near.{is_near_call}
use Rattle.siri_records.proofs.nearness.near_call_lists.Given as goal

abbrev pub invariant-loop-call : goal.invariant-loop-call
invariant-loop-call l = (pointwise (is_near_call l.slack) (iter_rest (zip_first l.call-iterator))
    (iter_rest (zip_second l.call-iterator)) ≡ pointwise (is_near_call l.slack) l.a l.b)
    × (length (iter_rest (zip_first l.call-iterator)) ≡ length (iter_rest (zip_second l.call-iterator)))
