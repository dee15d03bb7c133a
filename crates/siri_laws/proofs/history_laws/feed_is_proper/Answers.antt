use Rattle.siri_laws.proofs.Responses.{feed_proper}
use Rattle.siri_laws.proofs.history_laws.feed_is_proper.Goals as goal

pub returns : goal.returns
returns c = feed_proper
