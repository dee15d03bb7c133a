use Rattle.siri_items.proofs.ItemLaws.{item_canonical}
use Rattle.siri_items.proofs.laws.written_is_canonical.Goals as goal

pub returns : goal.returns
returns c = item_canonical
