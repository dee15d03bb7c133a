use Rattle.siri_wire.proofs.ReadIffSpells.{document_spelled, document_read}
use Rattle.siri_wire.proofs.laws.documents.document_is_spelled.Goals as goal

pub returns : goal.returns
returns c = λ document m. (document_spelled document m, document_read document m)
