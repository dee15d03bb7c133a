use Rattle.siri_change.proofs.Viewed.{view_without, view_after, view_carried, view_target}
use Rattle.siri_change.proofs.laws.views_stay_views.Goals as goal

pub returns-clause-removal : goal.returns-clause-removal
returns-clause-removal c = view_without

pub returns-clause-change : goal.returns-clause-change
returns-clause-change c = view_after

pub returns-clause-part : goal.returns-clause-part
returns-clause-part c = view_carried

pub returns-clause-target : goal.returns-clause-target
returns-clause-target c = view_target
