use Rattle.siri_laws.proofs.two_ends.Joined
use Rattle.siri_laws.proofs.small_runs.strangers_end_nothing.Goals as goal

pub returns-clause-status : goal.returns-clause-status
returns-clause-status c = Joined.status_is_strange

pub returns-clause-part : goal.returns-clause-part
returns-clause-part c = Joined.part_is_strange

pub returns-clause-end : goal.returns-clause-end
returns-clause-end c = Joined.end_is_not_strange
