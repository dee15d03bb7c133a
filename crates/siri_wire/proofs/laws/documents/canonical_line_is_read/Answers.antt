use Rattle.siri_wire.proofs.BackDocuments.{line_read}
use Rattle.siri_wire.proofs.laws.documents.canonical_line_is_read.Goals as goal

pub returns : goal.returns
returns c = line_read
