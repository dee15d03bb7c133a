use Rattle.std.proofs.Common.{◌≤ℤ◌, arith, ap, sym, w64}
use Rattle.std.proofs.Math.Facts.{to_z-of_z}
use Rattle.siri_records.specs.Keyed.{Items, entries_view}
use Rattle.siri_store.specs.Candidates.{candidates}
use Rattle.siri_topic.specs.Services.{service_asked}
use Rattle.siri_responder.specs.Looking.{with_items}
use Rattle.siri_responder.proofs.Uncrossed.{none_crossed}
use Rattle.siri_responder.proofs.looks.put_crossed.Goals as goal

pub returns-then-from-to-clause-ok : goal.returns-then-from-to-clause-ok
returns-then-from-to-clause-ok c =
    let topic = c.args.topic.now in
    let over = rw (to_z-of_z {w = w64} {z = c.args.to} c.ranges.to, to_z-of_z {w = w64} {z = c.args.from} c.ranges.from) at c.if-from-to.true in
    let le : c.args.to ≤ℤ c.args.from = grind (arith, over) in
    ap (λ (es : Items). with_items (entries_view c.args.found.now.entries) es)
    (sym (none_crossed (service_asked topic) c.args.from c.args.to (candidates topic c.args.store.now.entries) le))
