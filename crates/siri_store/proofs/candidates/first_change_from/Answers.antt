use Rattle.std.proofs.Common.{◌≡◌, ℕ, ◌+◌, ◌-◌, ◌/◌, true, false, drop, arith, ap, sym, subst, ◌∙◌}
use Rattle.std.specs.List.{All}
use Rattle.std.specs.Ordering.{nat_cmp, ordering_index, is_lt}
use Rattle.siri_records.specs.Keyed.{KeyChange}
use Rattle.siri_records.specs.Order.{key_cmp}
use Rattle.siri_records.proofs.Placed.{drop_at}
use Rattle.siri_store.specs.Sides.{is_below}
use Rattle.siri_store.proofs.Ranges.{holds_to, fails_on}
use Rattle.siri_store.proofs.Sides.{below_before}
use Rattle.siri_store.proofs.candidates.first_change_from.Goals as goal

pub loop-low-preserved-then-lt : goal.loop-low-preserved-then-lt
loop-low-preserved-then-lt c =
    let topic = c.args.topic.now in
    let least = c.args.least in
    let changes = c.args.changes.now in
    let middle : ℕ = c.loop-low.low + (c.loop-low.high - c.loop-low.low) / 2 in
    let change = c.in-Some.change.now in
    let below : is_below topic least change.0 ≡ true =
    sym (ap (λ (v : KeyChange). is_below topic least v.0) c.change.view_is) ∙ ap (is_below topic least) (sym c.key.ensures) ∙ ap (λ o. is_lt (nat_cmp (ordering_index o) (ordering_index least)))
    (sym c.side.ensures) ∙ (sym c.lt.ensures ∙ c.if-lt.true) in
    record {
      below = holds_to key_cmp (is_below topic least) (below_before topic least) changes middle change
          (drop (middle + 1) changes) c.requires (drop_at changes middle change (sym c.in-Some.ensures)) below;
      above = c.loop-low.invariant.above;
      rising = omega (arith, c.loop-low-test.true);
      within = c.loop-low.invariant.within;
    }

pub loop-low-preserved-in_default : goal.loop-low-preserved-in_default
loop-low-preserved-in_default c =
    let topic = c.args.topic.now in
    let least = c.args.least in
    let changes = c.args.changes.now in
    let middle : ℕ = c.loop-low.low + (c.loop-low.high - c.loop-low.low) / 2 in
    let change = c.in-Some.change.now in
    let above : is_below topic least change.0 ≡ false =
    sym (ap (λ (v : KeyChange). is_below topic least v.0) c.change.view_is) ∙ ap (is_below topic least) (sym c.key.ensures) ∙ ap (λ o. is_lt (nat_cmp (ordering_index o) (ordering_index least)))
    (sym c.side.ensures) ∙ (sym c.lt.ensures ∙ c.if-lt.false) in
    record {
      below = c.loop-low.invariant.below;
      above = fails_on key_cmp (is_below topic least) (below_before topic least) changes middle change
          (drop (middle + 1) changes) c.requires (drop_at changes middle change (sym c.in-Some.ensures)) above;
      rising = omega arith;
      within = omega (arith, c.loop-low-test.true, c.loop-low.invariant.within);
    }

pub returns-clause-above : goal.returns-clause-above
returns-clause-above c =
    let same : c.loop-low.high ≡ c.loop-low.low = omega (arith, c.loop-low-test.false, c.loop-low.invariant.rising) in
    subst (λ (n : ℕ). All (λ (e : KeyChange). is_below c.args.topic.now c.args.least e.0 ≡ false)
    (drop n c.args.changes.now)) same c.loop-low.invariant.above
