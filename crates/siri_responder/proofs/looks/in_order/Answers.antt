use Rattle.std.proofs.Common.{◌++◌, ap, sym, subst, List, ◌∙◌}
use Rattle.siri_records.specs.Keyed.{Items, InOrder, entries_view}
use Rattle.siri_responder.proofs.Gathering.{Shared, next_above, view_in_order}
use Rattle.siri_responder.proofs.looks.in_order.Goals as goal

pub loop-key-init : goal.loop-key-init
loop-key-init c =
    let gives = c.into_iter-key-iterator.ensures.into_iter_gives in
    record {
      can_next = tt;
      finite = tt;
      all = λ i. c.new-items.ensures i ++ entries_view (gives.0 i);
      ordered = view_in_order c.args.found.entries gives.5;
    }

pub push_last-requires : goal.push_last-requires
push_last-requires c =
    let so_far = c.loop-key.invariant in
    let rest = entries_view c.next.new.self in
    let all = ap (λ (es : List Shared). c.loop-key.items ++ entries_view es) (sym c.in-Some.ensures.steps) ∙ so_far.all in
    next_above c.loop-key.items (c.in-Some.key, c.in-Some.item.value) rest (subst (λ (es : Items). InOrder es) (sym all) so_far.ordered)
