use Rattle.std.proofs.Common.{[], ◌∷◌}
use Rattle.siri_model.specs.History.{Withdrawn}
use Rattle.siri_responder.proofs.Reached.{drop_here, reached_more, reached_no_more, on_err}
use Rattle.siri_responder.proofs.feeding.Feeding.withdraw_all.Goals as goal

pub loop-key-preserved : goal.loop-key-preserved
loop-key-preserved c =
    let next = drop_here c.args.removals.now c.loop-key.key-index c.key-item.result c.loop-key-test.true c.key-item.is in
    record {
      alive = c.in_ok-withdraw.ensures.alive;
      room = c.in_ok-withdraw.ensures.room;
      reached = reached_more _ _ _ _ (Withdrawn c.key-item.result ∷ []) _ (rw next at c.loop-key.invariant.reached) c.in_ok-withdraw.ensures.ok;
    }

pub returns-in_err-withdraw-clause-err : goal.returns-in_err-withdraw-clause-err
returns-in_err-withdraw-clause-err c = on_err _ (reached_no_more _ _ _ _ _ c.loop-key.invariant.reached c.in_err-withdraw.ensures.err)
