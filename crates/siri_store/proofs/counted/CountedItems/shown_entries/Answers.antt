use Rattle.siri_store.proofs.Gathered.{shown_in_order}
use Rattle.siri_store.proofs.counted.CountedItems.shown_entries.Goals as goal

pub shown_entries-requires : goal.shown_entries-requires
shown_entries-requires c =
    let walk = c.over-walk in
    rw walk.ensures.lends (shown_in_order c.args.topic.now c.args.moment c.entries.result.now walk.ensures.ordered)
