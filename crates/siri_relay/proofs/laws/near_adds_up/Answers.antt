use Rattle.siri_records.proofs.NearLaws.{near_joins}
use Rattle.siri_relay.proofs.laws.near_adds_up.Goals as goal

pub returns : goal.returns
returns c = near_joins
