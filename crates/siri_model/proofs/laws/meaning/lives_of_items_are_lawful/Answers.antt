use Rattle.siri_model.proofs.Lawful.{meaning_lawful}
use Rattle.siri_model.proofs.laws.meaning.lives_of_items_are_lawful.Goals as goal

pub returns : goal.returns
returns c = meaning_lawful
