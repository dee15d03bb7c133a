use Rattle.siri_keep.proofs.Reopened.{plans_none}
use Rattle.siri_keep.proofs.reopening.plan_open.Goals as goal

pub returns-in_ok-plan_new-in-None-clause-ok : goal.returns-in_ok-plan_new-in-None-clause-ok
returns-in_ok-plan_new-in-None-clause-ok c = λ rows says. plans_none c.args.name c.args.start c.args.now rows
    c.in_ok-plan_new-in-None.field-0 (rw c.in-None.is at says) c.in_ok-plan_new-in-None.ensures.opens
