use Rattle.std.proofs.Common.{◌≡◌, ℕ, w64, filter, None, ap, ◌∙◌}
use Rattle.std.specs.Prelude.{nat_lt, int_lt, pos}
use Rattle.std.proofs.Math.Facts.{to_z-of_z}
use Rattle.std.specs.BTreeMap.Range.{range_contains}
use Rattle.std.specs.declared.ops.Bound.TheVariants.{Included, Excluded}
use Rattle.siri_store.specs.Stamped.{Stamp, stamp_cmp}
use Rattle.siri_store.proofs.Orders.{in_range}
use Rattle.siri_store.proofs.stamps.Stamps.between.Goals as goal

pub returns-clause-stamps : goal.returns-clause-stamps
returns-clause-stamps c =
    let lower : (m : ℕ) → nat_lt m c.bound-low.result ≡ int_lt (pos m) c.args.from =
    λ m. c.bound-low.ensures m ∙ ap (int_lt (pos m)) (to_z-of_z {w = w64} {z = c.args.from} c.ranges.from) in
    let upper : (m : ℕ) → nat_lt m c.bound.result ≡ int_lt (pos m) c.args.to =
    λ m. c.bound.ensures m ∙ ap (int_lt (pos m)) (to_z-of_z {w = w64} {z = c.args.to} c.ranges.to) in
    let same = in_range c.args.order c.bound-low.result c.bound.result c.args.from c.args.to lower upper in
    rw (← c.self.view_is) (c.range.ensures.between tt
    ∙ (ap (λ n. filter
    (range_contains stamp_cmp (Included (c.args.order, c.bound-low.result, None))
    (Excluded (c.args.order, n, None))) c.self.inside.set.keys) c.max-high.ensures
    ∙ (λ i. filter (λ (s : Stamp). same s i) c.self.inside.set.keys)))
