use Rattle.siri_keeping.proofs.SameItems.{same_items}
use Rattle.siri_keeping.proofs.laws.items_are_known_by_their_keys.Goals as goal

pub returns : goal.returns
returns c = same_items
