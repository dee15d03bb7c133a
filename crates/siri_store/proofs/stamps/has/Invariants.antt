use Rattle.std.proofs.Common.{◌≡◌}
use Rattle.siri_store.specs.Stamped.{has}
use Rattle.siri_store.proofs.stamps.has.Given as goal

-- it is none of those so far
abbrev pub invariant-loop-one : goal.invariant-loop-one
invariant-loop-one l = record {
  left : has l.moment l.one-iterator ≡ has l.moment l.initial.one-iterator;
}
