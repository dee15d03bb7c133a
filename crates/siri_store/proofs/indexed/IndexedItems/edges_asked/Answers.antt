use Rattle.std.proofs.Common.{◌≡◌, w64, ap, ◌∙◌, subst, sym}
use Rattle.std.proofs.Math.Facts.{to_z-of_z}
use Rattle.siri_records.specs.Keyed.{Items}
use Rattle.siri_store.specs.Asked.{asked_stamps}
use Rattle.siri_store.specs.Between.{between, is_between}
use Rattle.siri_store.specs.Candidates.{UnderOwnKeys}
use Rattle.siri_store.specs.CrossWalk.{led}
use Rattle.siri_store.specs.Stamped.{order_asked}
use Rattle.siri_store.proofs.AskedFor.{all_pass, asked_crossed}
use Rattle.siri_store.proofs.indexed.IndexedItems.edges_asked.Goals as goal

pub returns : goal.returns
returns c =
    let es = c.self.inside.entries in
    let stamps = c.self.inside.stamps in
    let topic = c.args.topic.now in
    let there : c.between.result ≡ between (order_asked topic) c.args.from c.args.to stamps =
    c.between.ensures.stamps
    ∙ (λ i. between (c.order_asked.ensures.order i) (to_z-of_z {w = w64} {z = c.args.from} c.ranges.from i)
    (to_z-of_z {w = w64} {z = c.args.to} c.ranges.to i) stamps) in
    let own = subst (λ (items : Items). UnderOwnKeys items) (sym c.self.view_is) c.requires in
    record {
      crossed = rw (← c.self.view_is) (ap (λ s. led c.args.from es (asked_stamps topic s)) there
          ∙ asked_crossed topic es stamps own c.self.invariant.tied c.self.invariant.ordered c.between.ensures.ordered c.args.from c.args.to);
      walked = rw there (all_pass (is_between (order_asked topic) c.args.from c.args.to) stamps);
    }
