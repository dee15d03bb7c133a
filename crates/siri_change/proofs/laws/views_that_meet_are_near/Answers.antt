use Rattle.siri_change.proofs.Leads.{meets_stated}
use Rattle.siri_change.proofs.laws.views_that_meet_are_near.Goals as goal

pub returns : goal.returns
returns c = meets_stated
