use Rattle.siri_model.proofs.FollowedRows.{are_the_rows, go_on}
use Rattle.siri_model.proofs.laws.looks.followed_rows_are_those_of_the_table.Goals as goal

pub returns-clause-rows : goal.returns-clause-rows
returns-clause-rows c = are_the_rows

pub returns-clause-steps : goal.returns-clause-steps
returns-clause-steps c = go_on
