use Rattle.siri_change.proofs.InParts.{target_order, target_length}
use Rattle.siri_change.proofs.Leads.{order_after, order_applied}
use Rattle.siri_change.proofs.laws.views_stay_in_order.Goals as goal

pub returns-clause-changes : goal.returns-clause-changes
returns-clause-changes c = order_applied

pub returns-clause-change : goal.returns-clause-change
returns-clause-change c = order_after

pub returns-clause-target : goal.returns-clause-target
returns-clause-target c = target_order

pub returns-clause-length : goal.returns-clause-length
returns-clause-length c = target_length
