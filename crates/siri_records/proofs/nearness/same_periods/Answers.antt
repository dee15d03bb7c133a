-- The derived `==` of periods computes to theirs.
use Rattle.siri_records.proofs.nearness.same_periods.Goals as goal

pub returns : goal.returns
returns c = c.eq.ensures
