use Rattle.std.proofs.Common.{◌≡◌, ◌&&◌, ◌||◌}
use Rattle.siri_store.specs.Stamped.{Stamp, has_stamp, is_one_at}
use Rattle.siri_store.proofs.stamps.Stamps.put_all.Given as goal

-- with the stamps at the moments that are left there are those at all moments
abbrev pub invariant-loop-moment : goal.invariant-loop-moment
invariant-loop-moment l = record {
  left : (s : Stamp)
      → (has_stamp l.self s || is_one_at l.order l.key l.moment-iterator s)
      ≡ (is_one_at l.order l.key l.initial.moment-iterator s || has_stamp l.fn.self s);
  some : (s : Stamp)
      → has_stamp l.self s
      ≡ (has_stamp l.fn.self s || (is_one_at l.order l.key l.initial.moment-iterator s && has_stamp l.self s));
}
