use Rattle.std.proofs.Common.{sym, ◌∙◌}
use Rattle.siri_subscriptions.proofs.Changed.{changed, same}
use Rattle.siri_subscriptions.proofs.again.changes_found.Goals as goal
use Rattle.siri_subscriptions.proofs.again.changes_found.Goals.{in-Some+in_ok-push-in-Some, in-None}

pub loop-one-preserved : goal.loop-one-preserved
loop-one-preserved c =
    let wanted = c.args.wanted.now in
    let found = c.args.found.now in
    let lt = c.loop-one-test.true in
    let is = c.one-item.is in
    elim c.match-branch-2.branch [
      | in-Some+in_ok-push-in-Some w ↦
          rw w.list-is
          (changed wanted.slack c.args.view.now wanted.topic c.args.now found c.loop-one.list c.loop-one.one-index c.one-item.result lt is
          c.loop-one.invariant w.in-Some.change _
          (sym w.in-Some.is ∙ c.in_ok-change.ensures) w.in_ok-push-in-Some.ensures.ok)
      | in-None w ↦
          rw w.list-is
          (same wanted.slack c.args.view.now wanted.topic c.args.now found c.loop-one.list c.loop-one.one-index c.one-item.result lt is
          c.loop-one.invariant (sym w.in-None.is ∙ c.in_ok-change.ensures))
    ]
