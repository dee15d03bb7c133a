use Rattle.siri_view.proofs.Outcomes.{comes_where, comes_only}
use Rattle.siri_view.proofs.laws.outcomes_come_by_the_table.Goals as goal

pub returns : goal.returns
returns c number start round parts m o = (comes_only number start round parts m o, comes_where number start round parts m o)
