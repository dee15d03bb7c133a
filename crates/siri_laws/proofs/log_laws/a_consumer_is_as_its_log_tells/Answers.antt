use Rattle.siri_laws.proofs.two_ends.EndsLogged
use Rattle.siri_runs.specs.consumers.Opening.{opened}
use Rattle.siri_laws.proofs.log_laws.a_consumer_is_as_its_log_tells.Goals as goal

pub returns-clause-consumer : goal.returns-clause-consumer
returns-clause-consumer c = EndsLogged.consume_state

pub returns-clause-log : goal.returns-clause-log
returns-clause-log c name listen target input count from first to wire is begins turns =
    EndsLogged.consume_log name listen target input count from first to wire is begins turns
    (opened name listen begins.start begins.moment)
