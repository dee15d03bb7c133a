use Rattle.std.proofs.Common.{inl, inr, refl}
use Rattle.std.proofs.lemmas.Result.{err_from_is_err_and}
use Rattle.siri_keep.specs.declared.kept.Kept.{Kept}
use Rattle.siri_runs.specs.Errors.{clock_error, keeper_error, wire_error}
use Rattle.siri_keep_run.proofs.Opened.{counts_before, counts_clock, counts_keeper, counts_wire}
use Rattle.siri_keep_run.proofs.opening.open.Goals as goal

pub returns-in_err-moment-clause-err : goal.returns-in_err-moment-clause-err
returns-in_err-moment-clause-err g c =
    let p = err_from_is_err_and c.from_residual-in_err-moment.result c.from_residual-in_err-moment.ensures.1 in
    rw p.1 (inl (record {
      error = c.in_err-moment.field-0.0;
      end_is = p.2;
      fails = inr (inr (record {
        start = c.in_ok-start.start;
        raises = c.in_ok-start.ensures.call;
        listens = c.in_ok-listen.ensures;
        tells = c.in_err-moment.ensures.call;
      }));
      same = refl;
    }))

pub returns-in_err-start-clause-counted : goal.returns-in_err-start-clause-counted
returns-in_err-start-clause-counted g c =
    let p = err_from_is_err_and c.from_residual.result c.from_residual.ensures.1 in
    rw p.1 (counts_before Kept _ _ c.in_err-start.field-0.0 keeper_error c.in_err-start.ensures.call.failure (counts_keeper Kept _) p.2 c.in_err-start.ensures.call.error_is)

pub returns-in_err-listen-clause-counted : goal.returns-in_err-listen-clause-counted
returns-in_err-listen-clause-counted g c =
    let p = err_from_is_err_and c.from_residual-in_err-listen.result c.from_residual-in_err-listen.ensures.1 in
    rw p.1 (counts_before Kept _ _ c.in_err-listen.field-0.0 wire_error c.in_err-listen.ensures.failure (counts_wire Kept _) p.2 c.in_err-listen.ensures.error_is)

pub returns-in_err-moment-clause-counted : goal.returns-in_err-moment-clause-counted
returns-in_err-moment-clause-counted g c =
    let p = err_from_is_err_and c.from_residual-in_err-moment.result c.from_residual-in_err-moment.ensures.1 in
    rw p.1 (counts_before Kept _ _ c.in_err-moment.field-0.0 clock_error c.in_err-moment.ensures.call.failure (counts_clock Kept _) p.2 c.in_err-moment.ensures.call.error_is)
