use Rattle.siri_wire.proofs.ProperReadMessages.{converted_read}
use Rattle.siri_wire.proofs.laws.documents.converted_is_read.Goals as goal

pub returns : goal.returns
returns c = converted_read
