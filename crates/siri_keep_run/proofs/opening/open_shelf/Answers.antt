use Rattle.siri_keep_run.proofs.Opened.{opened_over, unopened_over}
use Rattle.siri_keep_run.proofs.opening.open_shelf.Goals as goal

pub returns-in-Ok-open-clause-ok : goal.returns-in-Ok-open-clause-ok
returns-in-Ok-open-clause-ok g c = opened_over c.args.name c.args.file.now c.args.start c.args.moment c.in-Ok-open.kept _ _ _ c.in-Ok.ensures.told
    c.in-Ok-open.ensures.begun c.in-Ok-open.ensures.ok c.open-2.ensures.trail

pub returns-in-Err-clause-leaves : goal.returns-in-Err-clause-leaves
returns-in-Err-clause-leaves g c = unopened_over c.args.name c.args.file.now c.args.start c.args.moment _ _ _ c.in-Ok.ensures.told c.open-2.ensures.trail
