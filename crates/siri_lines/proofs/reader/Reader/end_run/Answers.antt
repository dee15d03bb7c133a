use Rattle.std.proofs.Common.{◌∷◌, [], subst, sym}
use Rattle.std.proofs.lemmas.Result.{err_from_is_err_and, IfErr-weaker}
use Rattle.siri_lines.specs.Ends.{HasNoBreak}
use Rattle.siri_lines.specs.RunResult.{verdict}
use Rattle.siri_lines.proofs.LineBreaks.{no_break_append}
use Rattle.siri_lines.proofs.Steps.{on_ok_with}
use Rattle.siri_lines.proofs.Worlds.{longer_ends_each, run_broken, run_ends_each, run_taken}
use Rattle.siri_lines.proofs.reader.Reader.end_run.Goals as goal

pub returns-in_err-push-clause-err : goal.returns-in_err-push-clause-err
returns-in_err-push-clause-err g c =
    let event = verdict c.args.self.now.most g.T.LineTaker.event in
    let p = err_from_is_err_and c.from_residual.result c.from_residual.ensures.1 in
    rw (p.1, p.2) (longer_ends_each g.T.LineTaker.fits event c.args.taker.now c.args.self.now _ _ c.args.run.now
    (10 ∷ []) _ (run_ends_each g.T.LineTaker.fits g.T.LineTaker.event c.args.taker.now c.args.self.now _
    c.args.run.now _ c.requires.within.begun c.requires.run c.in_err-push.ensures.err))

pub end_line-requires-clause-within : goal.end_line-requires-clause-within
end_line-requires-clause-within g c = record {
  most = rw c.push.ensures.most c.requires.within.most;
  lines = rw (c.push.ensures.most, c.push.ensures.lines) c.requires.within.lines;
  line = c.in_ok-push.ensures.ok.1;
  begun = subst HasNoBreak (sym c.in_ok-push.ensures.ok.0) (no_break_append c.args.self.now.line.items c.args.run.now c.requires.within.begun c.requires.run);
}

pub returns-clause-ok : goal.returns-clause-ok
returns-clause-ok g c =
    let front = rw c.deref.ensures.value at c.without_return-ended.ensures.front in
    on_ok_with c.end_line.result (λ p e. run_taken g.T.LineTaker.fits
    (λ most. verdict most g.T.LineTaker.event) c.args.taker.now c.end_line.new.taker c.args.self.now c.push.new.self
    c.end_line.new.self _ _ _ c.args.run.now c.requires.within.begun c.requires.run c.push.ensures.lines
    c.push.ensures.most c.in_ok-push.ensures.ok.0 front e.0 p) c.end_line.ensures.ok c.end_line.ensures.empty

pub returns-clause-err : goal.returns-clause-err
returns-clause-err g c =
    let front = rw c.deref.ensures.value at c.without_return-ended.ensures.front in
    IfErr-weaker c.end_line.result _ _ (λ end p. run_broken g.T.LineTaker.fits
    (λ most. verdict most g.T.LineTaker.event) c.args.taker.now c.args.self.now c.push.new.self _ _ _ c.args.run.now
    end c.requires.within.begun c.requires.run c.push.ensures.lines c.push.ensures.most c.in_ok-push.ensures.ok.0
    front p) c.end_line.ensures.err
