use Rattle.siri_change.proofs.Leads.{changes_lead}
use Rattle.siri_change.proofs.laws.changes_lead_to_the_view.Goals as goal

pub returns : goal.returns
returns c = changes_lead
