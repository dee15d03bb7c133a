use Rattle.siri_laws.proofs.two_ends.Joined
use Rattle.siri_laws.proofs.small_runs.a_consumer_that_comes_back_is_in_order.Goals as goal

pub returns-clause-fits : goal.returns-clause-fits
returns-clause-fits c = Joined.back_fits

pub returns-clause-order : goal.returns-clause-order
returns-clause-order c = Joined.back_order
