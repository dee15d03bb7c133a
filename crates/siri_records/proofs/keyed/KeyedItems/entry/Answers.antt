use Rattle.std.proofs.Common.{sym}
use Rattle.siri_records.specs.declared.key.Key.{Key}
use Rattle.siri_records.proofs.Edited.{Shared}
use Rattle.siri_records.proofs.Placed.{order_viewed, none_at, placed_at, placed_none}
use Rattle.siri_records.proofs.keyed.KeyedItems.entry.Goals as goal

pub returns-in-Some-clause-onward : goal.returns-in-Some-clause-onward
returns-in-Some-clause-onward c =
    rw (← c.self.view_is) (placed_at (λ (e : Key × Shared). (e.0, e.1.value)) c.self.inside.entries.items c.args.place
    c.in-Some.entry.now (rw c.deref.ensures.value at c.in-Some.ensures.lookup.3.0)
    (rw c.deref.ensures.value at c.in-Some.ensures.lookup.1))

pub returns-in-Some-clause-ordered : goal.returns-in-Some-clause-ordered
returns-in-Some-clause-ordered c = rw (← c.self.view_is) (order_viewed _ c.self.invariant)

pub returns-in-None-clause-onward : goal.returns-in-None-clause-onward
returns-in-None-clause-onward c =
    let past = rw c.deref.ensures.value at c.in-None.ensures.lookup.3 in
    rw (← c.self.view_is) (placed_none (λ (e : Key × Shared). (e.0, e.1.value)) _ _ past)

pub returns-in-None-clause-ordered : goal.returns-in-None-clause-ordered
returns-in-None-clause-ordered c = rw (← c.self.view_is) (order_viewed _ c.self.invariant)

pub returns-in-None-clause-entry : goal.returns-in-None-clause-entry
returns-in-None-clause-entry c =
    let past = rw c.deref.ensures.value at c.in-None.ensures.lookup.3 in
    rw (← c.self.view_is) (sym (none_at _ _ past))
