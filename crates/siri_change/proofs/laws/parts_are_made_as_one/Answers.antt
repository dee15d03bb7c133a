use Rattle.siri_change.proofs.Carriage.{made_as_one}
use Rattle.siri_change.specs.Parts.{as_sent, changes_in}
use Rattle.siri_change.proofs.laws.parts_are_made_as_one.Goals as goal

pub returns-clause-sent : goal.returns-clause-sent
returns-clause-sent c = made_as_one as_sent

pub returns-clause-carried : goal.returns-clause-carried
returns-clause-carried c = made_as_one changes_in
