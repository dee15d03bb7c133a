use Rattle.siri_model.proofs.Facts.{goal_stays, step_follows, look_follows}
use Rattle.siri_model.proofs.Touched.{feed_follows, clock_follows}
use Rattle.siri_model.proofs.laws.looks.steps_keep_the_facts.Goals as goal

pub returns-clause-goal : goal.returns-clause-goal
returns-clause-goal c = goal_stays

pub returns-clause-step : goal.returns-clause-step
returns-clause-step c = step_follows

pub returns-clause-feed : goal.returns-clause-feed
returns-clause-feed c = feed_follows

pub returns-clause-clock : goal.returns-clause-clock
returns-clause-clock c = clock_follows

pub returns-clause-look : goal.returns-clause-look
returns-clause-look c = look_follows
