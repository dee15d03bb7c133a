use Rattle.siri_keeping.proofs.WrittenWhole.{moment_alone, moment_elsewhere, moment_there}
use Rattle.siri_keeping.proofs.laws.the_moment_is_written.Goals as goal

pub returns-clause-there : goal.returns-clause-there
returns-clause-there c = moment_there

pub returns-clause-alone : goal.returns-clause-alone
returns-clause-alone c = moment_alone

pub returns-clause-others : goal.returns-clause-others
returns-clause-others c = moment_elsewhere
