use Rattle.siri_model.proofs.Histories.{rows_go_on}
use Rattle.siri_model.proofs.laws.tables.rows_follow_their_lives.Goals as goal

pub returns : goal.returns
returns c = rows_go_on
