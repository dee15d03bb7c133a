use Rattle.siri_wire.proofs.ProperReadMessages.{converted_line_read}
use Rattle.siri_wire.proofs.laws.documents.converted_line_is_read.Goals as goal

pub returns : goal.returns
returns c = converted_line_read
