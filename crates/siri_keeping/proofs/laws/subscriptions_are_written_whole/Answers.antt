use Rattle.siri_keeping.proofs.WrittenWhole.{subscriptions_elsewhere, written_has}
use Rattle.siri_keeping.proofs.laws.subscriptions_are_written_whole.Goals as goal

pub returns-clause-rows : goal.returns-clause-rows
returns-clause-rows c = written_has

pub returns-clause-others : goal.returns-clause-others
returns-clause-others c = subscriptions_elsewhere
