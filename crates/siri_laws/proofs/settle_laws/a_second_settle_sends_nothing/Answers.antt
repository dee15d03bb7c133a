use Rattle.siri_laws.proofs.Settles.{second_settle}
use Rattle.siri_laws.proofs.settle_laws.a_second_settle_sends_nothing.Goals as goal

pub returns : goal.returns
returns c = second_settle
