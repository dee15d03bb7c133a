use Rattle.siri_change.proofs.SameItems.{same_exact, same_where_equal}
use Rattle.siri_change.proofs.laws.same_items_are_equal.Goals as goal

pub returns : goal.returns
returns c a b = (same_exact a b, same_where_equal a b)
