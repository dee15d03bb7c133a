use Rattle.siri_laws.proofs.Responses.{of_history}
use Rattle.siri_laws.proofs.history_laws.response_is_proper.Goals as goal

pub returns : goal.returns
returns c = of_history
