use Rattle.std.proofs.Common.{inl, inr, subst}
use Rattle.std.specs.Result.{IfOk}
use Rattle.siri_doors.specs.Decisions.{comes, step, where_it_waits}
use Rattle.siri_doors.specs.Waiting.{Becomes}
use Rattle.siri_doors.proofs.waiting.Waiting.happens.Goals as goal

pub returns-in-Opened-clause-ok : goal.returns-in-Opened-clause-ok
unfolding step
returns-in-Opened-clause-ok g c = rw c.in-Opened.is c.open.ensures.ok

pub returns-in-Came-clause-ok : goal.returns-in-Came-clause-ok
unfolding step
returns-in-Came-clause-ok g c =
    let whole = g.P.Patience.whole c.args.patience.now in
    let ws = c.args.self.now in
    rw c.in-Came.is (subst (λ piece. IfOk c.come.result (Becomes (where_it_waits c.in-Came.slot ws (comes whole c.in-Came.slot piece ws)) c.come.new.self)) c.slice.ensures c.come.ensures.ok)

pub returns-in-Ended-clause-ok : goal.returns-in-Ended-clause-ok
unfolding step
returns-in-Ended-clause-ok g c = elim c.in-Ended.is [ inl e ↦ rw e c.end.ensures | inr e ↦ rw e c.end.ensures ]
