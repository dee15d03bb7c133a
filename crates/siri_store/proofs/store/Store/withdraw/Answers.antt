use Rattle.siri_store.proofs.Alive.{alive_removed}
use Rattle.siri_store.proofs.store.Store.withdraw.Goals as goal

pub returns-clause-alive : goal.returns-clause-alive
returns-clause-alive c alive =
    let before = rw (← c.self.view_is) at alive in
    rw c.remove.ensures.rest (alive_removed c.self.inside.moment c.self.inside.items.entries c.args.key.now before)
