use Rattle.siri_laws.proofs.Refused.{same_stands, same_follows}
use Rattle.siri_laws.proofs.settle_laws.a_refused_settle_changes_nothing.Goals as goal

pub returns-clause-stands : goal.returns-clause-stands
returns-clause-stands c = same_stands

pub returns-clause-follows : goal.returns-clause-follows
returns-clause-follows c = same_follows
