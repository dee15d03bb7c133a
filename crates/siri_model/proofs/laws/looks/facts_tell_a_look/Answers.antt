use Rattle.siri_model.proofs.Facts.{facts_suffice, direct_stays}
use Rattle.siri_model.proofs.laws.looks.facts_tell_a_look.Goals as goal

pub returns-clause-keys : goal.returns-clause-keys
returns-clause-keys c = facts_suffice

pub returns-clause-stays : goal.returns-clause-stays
returns-clause-stays c = direct_stays
