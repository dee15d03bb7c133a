use Rattle.siri_model.proofs.Apart.{bounds_add, bounds_are_within}
use Rattle.siri_model.proofs.laws.looks.bounds_of_looks_add_up.Goals as goal

pub returns-clause-add : goal.returns-clause-add
returns-clause-add c = bounds_add

pub returns-clause-within : goal.returns-clause-within
returns-clause-within c = bounds_are_within
