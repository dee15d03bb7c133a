use Rattle.std.proofs.Common.{ap, ◌∙◌, Some}
use Rattle.siri_store.proofs.Orders.{one_put}
use Rattle.siri_store.proofs.stamps.Stamps.put.Goals as goal

pub returns-clause-ok : goal.returns-clause-ok
returns-clause-ok c = rw (← c.self.view_is)
    (one_put c.self.inside.set.keys c.insert.new.self.keys c.stamp.result c.args.order c.args.moment c.args.key.now
    (c.stamp.ensures ∙ ap (λ k. (c.args.order, c.args.moment, Some k)) c.in_ok-copy.ensures)
    c.in_ok-insert.ensures.updates.0)
