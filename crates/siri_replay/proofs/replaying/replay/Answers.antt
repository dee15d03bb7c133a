use Rattle.std.proofs.Common.{[]}
use Rattle.siri_lines.proofs.Whole.{reports_nothing}
use Rattle.siri_replay.specs.Report.{event, most_lines}
use Rattle.siri_lines.specs.RunResult.{verdict}
use Rattle.siri_replay.proofs.Steps.{as_report}
use Rattle.siri_replay.proofs.Shown.{views_reported}
use Rattle.siri_replay.proofs.replaying.replay.Goals as goal

pub returns-in-Ok-clause-report : goal.returns-in-Ok-clause-report
returns-in-Ok-clause-report g c = as_report _ _ _ _ _ (c.read_lines.ensures.report [] c.in-Ok.ensures)

pub returns-in-Err-clause-report : goal.returns-in-Err-clause-report
returns-in-Err-clause-report g c = as_report _ _ _ _ _ (reports_nothing (verdict most_lines event) [] _ _)

pub returns-in-Ok-clause-views : goal.returns-in-Ok-clause-views
returns-in-Ok-clause-views g c = views_reported _ _ _ _ _ (as_report _ _ _ _ _ (c.read_lines.ensures.report [] c.in-Ok.ensures))

pub returns-in-Err-clause-views : goal.returns-in-Err-clause-views
returns-in-Err-clause-views g c = views_reported _ _ _ _ _ (as_report _ _ _ _ _ (reports_nothing (verdict most_lines event) [] _ _))

pub returns-in-Ok-clause-pieces : goal.returns-in-Ok-clause-pieces
returns-in-Ok-clause-pieces g c = c.read_lines.ensures.pieces [] c.in-Ok.ensures
