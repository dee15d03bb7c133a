use Rattle.siri_outside.specs.MetFailures.{has_failed}
use Rattle.siri_lines.proofs.Meeting.{sink_more}
use Rattle.siri_runs.proofs.consumers.Whole.{front_after, front_of, on_err, on_err_with}
use Rattle.siri_runs.proofs.consuming.write_end.Goals as goal

pub returns-in_err-write_views-clause-err : goal.returns-in_err-write_views-clause-err
returns-in_err-write_views-clause-err g c = on_err c.from_residual.result _ (front_of _ _ _ _ c.in_err-write_views.ensures.err)

pub returns-clause-err : goal.returns-clause-err
returns-clause-err g c = on_err_with c.write_summary.result (front_after _ _ _ _ _ c.in_ok-write_views.ensures.ok) c.write_summary.ensures.err

pub returns-clause-meets : goal.returns-clause-meets
returns-clause-meets g c = sink_more (has_failed c.write_summary.result) _ _ _ _ _ _ c.in_ok-write_views.ensures.meets c.write_summary.ensures.meets
