use Rattle.siri_laws.proofs.two_ends.Joined
use Rattle.siri_laws.proofs.small_runs.an_exchange_is_in_order.Goals as goal

pub returns-clause-fits : goal.returns-clause-fits
returns-clause-fits c = Joined.exchange_fits

pub returns-clause-order : goal.returns-clause-order
returns-clause-order c = Joined.exchange_order

pub returns-clause-too_early : goal.returns-clause-too_early
returns-clause-too_early c = Joined.not_too_early
