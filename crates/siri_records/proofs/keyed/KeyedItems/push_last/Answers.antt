use Rattle.siri_records.proofs.Placed.{keys_append, keys_viewed}
use Rattle.siri_records.proofs.keyed.KeyedItems.push_last.Goals as goal

pub invariant_of-self-2 : goal.invariant_of-self-2
invariant_of-self-2 c =
    let above = rw (← c.self.view_is) at c.requires in
    rw c.in_ok-push.ensures.items (rw keys_append (rw (keys_viewed c.self.inside.entries.items) at above))
