use Rattle.siri_model.specs.History.{entries_in}
use Rattle.siri_responder.proofs.Reached.{reached_more, reached_some, on_err}
use Rattle.siri_responder.proofs.feeding.Feeding.feed_all.Goals as goal

pub loop-delivery-preserved : goal.loop-delivery-preserved
loop-delivery-preserved c = record {
  alive = c.in_ok-feed_one.ensures.alive;
  room = c.in_ok-feed_one.ensures.room;
  reached = reached_more _ _ _ _ (entries_in c.in-Some.delivery) _
      (rw (c.in-Some.ensures.steps.0) at c.loop-delivery.invariant.reached) c.in_ok-feed_one.ensures.ok;
}

pub returns-in_err-feed_one-clause-err : goal.returns-in_err-feed_one-clause-err
returns-in_err-feed_one-clause-err c =
    on_err _ (reached_some _ _ _ _ (entries_in c.in-Some.delivery) _
    (rw (c.in-Some.ensures.steps.0) at c.loop-delivery.invariant.reached) c.in_err-feed_one.ensures.err)
