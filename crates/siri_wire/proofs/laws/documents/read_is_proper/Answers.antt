use Rattle.siri_wire.proofs.ProperReadMessages.{document_proper}
use Rattle.siri_wire.proofs.laws.documents.read_is_proper.Goals as goal

pub returns : goal.returns
returns c = document_proper
