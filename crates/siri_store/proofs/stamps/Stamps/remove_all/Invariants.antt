use Rattle.std.proofs.Common.{◌≡◌, ◌&&◌}
use Rattle.std.specs.Prelude.{not, option_map}
use Rattle.siri_store.specs.Stamped.{Stamp, has_stamp, is_one_at, is_one_of}
use Rattle.siri_store.proofs.stamps.Stamps.remove_all.Given as goal

-- without the stamps at the moments that are left those at all moments are gone
abbrev pub invariant-loop-moment : goal.invariant-loop-moment
invariant-loop-moment l = record {
  left : (s : Stamp)
      → (has_stamp l.self s
      && not (is_one_at l.order l.fn.key l.moment-iterator s
      && not (is_one_of l.fn.key (option_map (λ item. item.now) l.kept) s)))
      ≡ (has_stamp l.fn.self s && not
      (is_one_at l.order l.fn.key l.initial.moment-iterator s && not
      (is_one_of l.fn.key (option_map (λ item. item.now) l.kept) s)));
  key : l.key ≡ l.fn.key;
}
