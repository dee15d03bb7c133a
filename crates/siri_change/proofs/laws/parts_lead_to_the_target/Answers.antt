use Rattle.siri_change.proofs.InParts.{some_part, load_applied, load_leads, load_few}
use Rattle.siri_change.proofs.laws.parts_lead_to_the_target.Goals as goal

pub returns-clause-at_once : goal.returns-clause-at_once
returns-clause-at_once c = load_applied

pub returns-clause-whole : goal.returns-clause-whole
returns-clause-whole c = load_leads

pub returns-clause-some_part : goal.returns-clause-some_part
returns-clause-some_part c = some_part

pub returns-clause-few_parts : goal.returns-clause-few_parts
returns-clause-few_parts c = load_few
