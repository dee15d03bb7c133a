use Rattle.std.proofs.Common.{ℕ, ap}
use Rattle.siri_store.specs.Held.{Held}
use Rattle.siri_store.proofs.Earliest.{next_leaves, none_leaves, expired_rest}
use Rattle.siri_store.proofs.store.Store.expire_one.Goals as goal

pub returns-clause-key : goal.returns-clause-key
returns-clause-key c =
    let old = c.self.inside in
    let s : Held = record { entries = old.items.entries; moment = old.moment; reads = old.items.reads } in
    let left = c.remove_first_ended in
    rw (← c.self.view_is)
    (next_leaves s left.ensures.ordered left.ensures.none_closed left.result left.ensures.first left.ensures.none)

pub returns-clause-none : goal.returns-clause-none
returns-clause-none c =
    let old = c.self.inside in
    let s : Held = record { entries = old.items.entries; moment = old.moment; reads = old.items.reads } in
    let left = c.remove_first_ended in
    rw (← c.self.view_is)
    (none_leaves s left.ensures.ordered left.ensures.none_closed left.result left.ensures.first left.ensures.none)

pub returns-clause-rest : goal.returns-clause-rest
returns-clause-rest c =
    let old = c.self.inside in
    let left = c.remove_first_ended in
    let s : Held = record { entries = old.items.entries; moment = old.moment; reads = old.items.reads } in
    let at : ℕ → Held = λ n. record { entries = left.new.self.entries; moment = old.moment; reads = n } in
    rw (← c.self.view_is)
    (expired_rest s (at left.new.self.reads) left.result (ap at left.ensures.reads) left.ensures.rest left.ensures.same)
