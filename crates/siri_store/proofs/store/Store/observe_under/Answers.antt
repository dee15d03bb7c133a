use Rattle.std.proofs.Common.{sym, ◌∙◌, ap}
use Rattle.siri_records.specs.Ends.{is_dead}
use Rattle.siri_store.proofs.Alive.{alive_removed, alive_put}
use Rattle.siri_store.proofs.Earliest.{live_unclosed}
use Rattle.siri_store.proofs.store.Store.observe_under.Goals as goal

pub returns-then-dead-clause-alive : goal.returns-then-dead-clause-alive
returns-then-dead-clause-alive c =
    let alive = rw (← c.self.view_is) at c.requires.alive in
    rw c.remove.ensures.rest (alive_removed c.self.inside.moment c.self.inside.items.entries c.key.result.now alive)

pub returns-clause-alive : goal.returns-clause-alive
returns-clause-alive c =
    let now = c.self.inside.moment in
    let es = c.self.inside.items.entries in
    let alive = rw (← c.self.view_is) at c.requires.alive in
    let live = ap (λ i. is_dead i now) (sym c.deref.ensures) ∙ (sym c.dead.ensures ∙ c.if-dead.false) in
    rw c.in_ok-put.ensures.ok (alive_put now es c.args.key c.args.item.value alive live)

pub returns-in_err-put-clause-alive : goal.returns-in_err-put-clause-alive
returns-in_err-put-clause-alive c = rw c.in_err-put.ensures.err (rw (← c.self.view_is) at c.requires.alive)

pub put-requires : goal.put-requires
put-requires c =
    let now = c.self.inside.moment in
    let live = ap (λ i. is_dead i now) (sym c.deref.ensures) ∙ (sym c.dead.ensures ∙ c.if-dead.false) in
    record {
      own = c.requires.own;
      unclosed = live_unclosed c.args.item.value now live;
    }
