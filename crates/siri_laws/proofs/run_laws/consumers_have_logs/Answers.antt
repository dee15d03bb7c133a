use Rattle.siri_laws.proofs.two_ends.Ran
use Rattle.siri_laws.proofs.run_laws.consumers_have_logs.Goals as goal

pub returns-clause-whole : goal.returns-clause-whole
returns-clause-whole c = Ran.consume_whole

pub returns-clause-cut : goal.returns-clause-cut
returns-clause-cut c = Ran.consume_cut
