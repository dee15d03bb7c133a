use Rattle.siri_change.proofs.Carriage.{carried_part}
use Rattle.siri_change.proofs.Viewed.{load_keyed}
use Rattle.siri_change.proofs.laws.items_carry_their_keys.Goals as goal

pub returns-clause-part : goal.returns-clause-part
returns-clause-part c = carried_part

pub returns-clause-load : goal.returns-clause-load
returns-clause-load c = load_keyed
