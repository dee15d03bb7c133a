use Rattle.std.proofs.Common.{[], ◌∷◌}
use Rattle.siri_model.specs.History.{Observed}
use Rattle.siri_responder.proofs.Reached.{reached_more, reached_no_more, on_err}
use Rattle.siri_responder.proofs.feeding.Feeding.observe_all.Goals as goal

pub loop-item-preserved : goal.loop-item-preserved
loop-item-preserved c = record {
  alive = c.in_ok-observe.ensures.alive;
  room = c.in_ok-observe.ensures.room;
  reached = reached_more _ _ _ _ (Observed c.in-Some.item ∷ []) _ (rw (c.in-Some.ensures.steps.0) at c.loop-item.invariant.reached) c.in_ok-observe.ensures.ok;
}

pub returns-in_err-observe-clause-err : goal.returns-in_err-observe-clause-err
returns-in_err-observe-clause-err c = on_err _ (reached_no_more _ _ _ _ _ c.loop-item.invariant.reached c.in_err-observe.ensures.err)
