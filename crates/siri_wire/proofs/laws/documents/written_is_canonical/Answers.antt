use Rattle.siri_wire.proofs.BackDocuments.{message_within}
use Rattle.siri_wire.proofs.laws.documents.written_is_canonical.Goals as goal

pub returns : goal.returns
returns c = λ m p. let is = message_within m p in (is.canonical, is.shallow)
