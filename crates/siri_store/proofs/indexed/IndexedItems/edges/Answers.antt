use Rattle.std.proofs.Common.{◌≡◌, w64, ap, refl, ◌∙◌}
use Rattle.std.proofs.Math.Facts.{to_z-of_z}
use Rattle.siri_store.specs.Between.{between}
use Rattle.siri_store.specs.Stamped.{by_edge}
use Rattle.siri_store.specs.CrossWalk.{led}
use Rattle.siri_store.proofs.Crossed.{led_crossed}
use Rattle.siri_store.proofs.indexed.IndexedItems.edges.Goals as goal

pub returns : goal.returns
returns c =
    let es = c.self.inside.entries in
    let order = by_edge c.args.service in
    let there : c.between.result ≡ between order c.args.from c.args.to c.self.inside.stamps =
    c.between.ensures.stamps
    ∙ (λ i. between (c.by_edge.ensures.order i) (to_z-of_z {w = w64} {z = c.args.from} c.ranges.from i)
    (to_z-of_z {w = w64} {z = c.args.to} c.ranges.to i) c.self.inside.stamps) in
    record {
      crossed = rw (← c.self.view_is) (ap (led c.args.from es) there
          ∙ led_crossed order c.args.service c.args.from c.args.to es c.self.inside.stamps c.self.invariant.tied
          (λ k. refl) c.self.invariant.ordered c.between.ensures.ordered);
    }
