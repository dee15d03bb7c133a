use Rattle.siri_runs.proofs.consumers.Whole.{on_err}
use Rattle.siri_relay_run.proofs.Whole.{asked_nothing}
use Rattle.siri_relay_run.proofs.running.ask.Goals as goal

pub returns-in_err-push-clause-err : goal.returns-in_err-push-clause-err
returns-in_err-push-clause-err g c = on_err c.from_residual.result _ (asked_nothing _ _ _ _ _)
