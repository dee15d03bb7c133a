use Rattle.siri_items.proofs.ItemLaws.{item_reads}
use Rattle.siri_items.proofs.ItemLaws.{item_spelled}
use Rattle.siri_items.proofs.laws.read_is_spelled.Goals as goal

pub returns : goal.returns
returns c = λ service d i. (item_spelled service d i, item_reads service d i)
