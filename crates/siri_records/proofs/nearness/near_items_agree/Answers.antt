use Rattle.siri_records.proofs.NearLaws.{near_itself, near_agrees}
use Rattle.siri_records.proofs.nearness.near_items_agree.Goals as goal

pub returns-clause-itself : goal.returns-clause-itself
returns-clause-itself c = near_itself

pub returns-clause-agree : goal.returns-clause-agree
returns-clause-agree c = near_agrees
