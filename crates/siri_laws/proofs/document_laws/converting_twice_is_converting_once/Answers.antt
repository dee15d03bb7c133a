use Rattle.siri_laws.proofs.Converting.{converted_twice}
use Rattle.siri_laws.proofs.document_laws.converting_twice_is_converting_once.Goals as goal

pub returns : goal.returns
returns c = converted_twice
