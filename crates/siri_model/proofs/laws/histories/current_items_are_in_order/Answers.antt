use Rattle.siri_model.proofs.InOrder.{current_in_order}
use Rattle.siri_model.proofs.laws.histories.current_items_are_in_order.Goals as goal

pub returns : goal.returns
returns c = current_in_order
