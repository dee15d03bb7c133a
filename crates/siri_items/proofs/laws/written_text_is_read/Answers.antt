use Rattle.std.proofs.Common.{refl}
use Rattle.siri_items.proofs.ItemLaws.{item_back}
use Rattle.siri_items.proofs.ItemLaws.{item_text}
use Rattle.siri_items.proofs.laws.written_text_is_read.Goals as goal

pub returns : goal.returns
returns c = λ i p. rw (item_text i p, item_back i p) refl
