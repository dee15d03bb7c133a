use Rattle.std.proofs.Common.{◌≡◌, ◌∙◌, arith}
use Rattle.siri_subscriptions.specs.Courses.{kept_rows}
use Rattle.siri_subscriptions.specs.Prepared.{candidate_of}
use Rattle.siri_subscriptions.proofs.Asked.{of_lists}
use Rattle.siri_subscriptions.proofs.prepared.prepare_all.Goals as goal

pub returns : goal.returns
returns c =
    let r = c.args.request.now in
    let done : c.loop-list.list-index ≡ 4 = omega arith in
    let ready = rw done at c.loop-list.invariant in
    ready ∙ of_lists (candidate_of c.args.now r.message_identifier (kept_rows c.args.table.now)) r
