use Rattle.siri_store.proofs.Orders.{one_gone}
use Rattle.siri_store.proofs.stamps.Stamps.remove.Goals as goal

pub returns-clause-rest : goal.returns-clause-rest
returns-clause-rest c = rw (← c.self.view_is)
    (one_gone c.self.inside.set.keys c.remove.new.self.keys c.stamp-stamp.result c.args.order c.args.moment c.args.key
    c.stamp-stamp.ensures c.remove.ensures.updates.0)
