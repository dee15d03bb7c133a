use Rattle.std.proofs.Common.{◌≡◌, ℕ, w64, filter, ap, ◌∙◌}
use Rattle.std.specs.Prelude.{nat_lt, int_lt, pos}
use Rattle.std.proofs.Math.Facts.{to_z-of_z}
use Rattle.siri_store.specs.Stamped.{Stamp}
use Rattle.siri_store.proofs.Orders.{in_since}
use Rattle.siri_store.proofs.stamps.Stamps.since.Goals as goal

pub returns-clause-stamps : goal.returns-clause-stamps
returns-clause-stamps c =
    let lower : (m : ℕ) → nat_lt m c.bound.result ≡ int_lt (pos m) c.args.from =
    λ m. c.bound.ensures m ∙ ap (int_lt (pos m)) (to_z-of_z {w = w64} {z = c.args.from} c.ranges.from) in
    let same = in_since c.args.order c.bound.result c.args.from lower in
    rw (← c.self.view_is) (c.range.ensures.between tt
    ∙ (λ i. filter (λ (s : Stamp). same s i) c.self.inside.set.keys))
