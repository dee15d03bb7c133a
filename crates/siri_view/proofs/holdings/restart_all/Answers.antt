use Rattle.std.proofs.Common.{◌≡◌, suc, ◌+◌, ◌∙◌, ap, arith}
use Rattle.siri_view.specs.Places.{restarted_at, restarted_to}
use Rattle.siri_view.proofs.Restarted.{one_more_restarted, all_restarted}
use Rattle.siri_view.proofs.holdings.restart_all.Goals as goal

pub loop-place-preserved : goal.loop-place-preserved
loop-place-preserved c =
    let es = c.args.entries.now.items in
    let next : suc c.loop-place.place ≡ c.loop-place.place + 1 = omega arith in record {
      number = omega arith;
      items = c.restart_at.ensures.items
          ∙ (ap (λ held. restarted_at c.loop-place.number held c.loop-place.place) c.loop-place.invariant.items
          ∙ (one_more_restarted es c.loop-place.place c.args.first c.loop-place.number c.loop-place.invariant.number
          ∙ ap (λ count. restarted_to count c.args.first es) next));
      keys = c.restart_at.ensures.keys ∙ c.loop-place.invariant.keys;
      len = omega arith;
    }

pub returns-clause-items : goal.returns-clause-items
returns-clause-items c =
    c.loop-place.invariant.items ∙ all_restarted c.args.entries.now.items c.loop-place.place c.args.first (omega arith)
