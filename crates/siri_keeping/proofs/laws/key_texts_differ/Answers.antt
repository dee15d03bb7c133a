use Rattle.siri_keeping.proofs.Kept.{texts_differ}
use Rattle.siri_keeping.proofs.laws.key_texts_differ.Goals as goal

pub returns : goal.returns
returns c = texts_differ
