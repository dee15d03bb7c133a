use Rattle.siri_records.proofs.Placed.{placed_at}
use Rattle.siri_responder.proofs.Ranks.{pushed}
use Rattle.siri_responder.proofs.soonest.ranks.Goals as goal

pub loop-place-preserved : goal.loop-place-preserved
loop-place-preserved c =
    let next = placed_at (λ item. item.value) c.args.items.now c.loop-place.place c.index-items-place.result c.loop-place-test.true c.index-items-place.is in
    pushed _ _ _ _ _ (rw (next.0) at c.loop-place.invariant) (rw (← c.deref.ensures, ← c.rank.ensures) c.in_ok-push.ensures.items)
