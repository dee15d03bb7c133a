use Rattle.siri_change.proofs.Levels.{looks_by_keys}
use Rattle.siri_change.proofs.laws.looks_need_few_keys.Goals as goal

pub returns : goal.returns
returns c = looks_by_keys
