use Rattle.std.proofs.Common.{◌∙◌, ◌++◌, ◌∷◌, [], ap, sym, is_le}
use Rattle.siri_responder.specs.Answering.{rank_cmp, rank_of}
use Rattle.siri_records.proofs.Placed.{placed_at}
use Rattle.siri_responder.proofs.Ranks.{kept_yes, kept_no}
use Rattle.siri_responder.proofs.soonest.up_to.Goals.{then-is_up_to+in_ok-one+in_ok-push, else-is_up_to}
use Rattle.siri_responder.proofs.soonest.up_to.Goals as goal

pub loop-place-preserved : goal.loop-place-preserved
loop-place-preserved c =
    elim c.if-is_up_to.branch [
      | then-is_up_to+in_ok-one+in_ok-push w ↦
          kept_yes _ _ c.loop-place.place c.args.last.now c.index-items-place.result.value _ _ _
          (placed_at (λ item. item.value) c.args.items.now c.loop-place.place c.index-items-place.result c.loop-place-test.true c.index-items-place.is).0
          (sym (c.is_up_to.ensures ∙ ap (λ r. is_le (rank_cmp r c.args.last.now))
          (c.rank.ensures ∙ ap (λ i. rank_of (c.loop-place.place, i)) c.deref.ensures)) ∙ w.if-is_up_to.true)
          c.loop-place.invariant
          (w.kept-is ∙ w.in_ok-push.ensures.ok ∙ ap (λ y. c.loop-place.kept ++ y ∷ []) (w.of.ensures ∙ w.in_ok-one.ensures.cases))
      | else-is_up_to w ↦
          kept_no _ _ c.loop-place.place c.args.last.now c.index-items-place.result.value _ _ _
          (placed_at (λ item. item.value) c.args.items.now c.loop-place.place c.index-items-place.result c.loop-place-test.true c.index-items-place.is).0
          (sym (c.is_up_to.ensures ∙ ap (λ r. is_le (rank_cmp r c.args.last.now))
          (c.rank.ensures ∙ ap (λ i. rank_of (c.loop-place.place, i)) c.deref.ensures)) ∙ w.if-is_up_to.false)
          c.loop-place.invariant
          w.kept-is
    ]
