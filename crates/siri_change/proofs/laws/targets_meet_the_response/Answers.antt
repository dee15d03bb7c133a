use Rattle.siri_change.proofs.InParts.{target_meets}
use Rattle.siri_change.proofs.laws.targets_meet_the_response.Goals as goal

pub returns : goal.returns
returns c = target_meets
