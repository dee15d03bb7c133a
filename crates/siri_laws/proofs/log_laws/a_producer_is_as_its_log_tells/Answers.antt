use Rattle.siri_laws.proofs.two_ends.EndsLogged
use Rattle.siri_laws.proofs.log_laws.a_producer_is_as_its_log_tells.Goals as goal

pub returns-clause-history : goal.returns-clause-history
returns-clause-history c = EndsLogged.serve_history

pub returns-clause-log : goal.returns-clause-log
returns-clause-log c = EndsLogged.serve_log
