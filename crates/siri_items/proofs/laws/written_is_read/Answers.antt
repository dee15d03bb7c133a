use Rattle.siri_items.proofs.ItemLaws.{item_back}
use Rattle.siri_items.proofs.laws.written_is_read.Goals as goal

pub returns : goal.returns
returns c = item_back
