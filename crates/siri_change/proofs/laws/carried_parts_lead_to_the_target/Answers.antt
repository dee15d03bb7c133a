use Rattle.siri_change.proofs.Carriage.{carried_leads, carried_views_lead, carried_some, carried_few}
use Rattle.siri_change.proofs.laws.carried_parts_lead_to_the_target.Goals as goal

pub returns-clause-whole : goal.returns-clause-whole
returns-clause-whole c = carried_leads

pub returns-clause-of_views : goal.returns-clause-of_views
returns-clause-of_views c = carried_views_lead

pub returns-clause-some_part : goal.returns-clause-some_part
returns-clause-some_part c = carried_some

pub returns-clause-few_parts : goal.returns-clause-few_parts
returns-clause-few_parts c = carried_few
