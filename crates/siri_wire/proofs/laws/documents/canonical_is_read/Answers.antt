use Rattle.siri_wire.proofs.BackDocuments.{canonical_read}
use Rattle.siri_wire.proofs.laws.documents.canonical_is_read.Goals as goal

pub returns : goal.returns
returns c = canonical_read
