use Rattle.std.proofs.Common.{refl, ap, arith}
use Rattle.std.specs.Prelude.{length}
use Rattle.siri_records.specs.Keyed.{unshared}
use Rattle.siri_store.specs.Walk.{to_lend}
use Rattle.siri_store.proofs.Gathered.{found_one, one_more, all_found, walked_none, walked_on}
use Rattle.siri_store.proofs.walk.shown_items.Goals as goal

pub loop-entry-init : goal.loop-entry-init
loop-entry-init c = record {
  found = rw c.new-found.ensures.items refl;
  walked = walked_none c.args.walk.now;
}

pub loop-entry-preserved : goal.loop-entry-preserved
loop-entry-preserved c =
    let walk = c.loop-entry.walk in
    let step = c.in-Some.ensures.steps in
    record {
      found = found_one _ _ _ _ _ c.in-Some.entry.1.now.value
          (one_more c.loop-entry.found.items _ _ _ c.in_ok-push.ensures.items c.in_ok-item.ensures.cases) step.lent
          c.loop-entry.invariant.found;
      walked = walked_on c.args.walk.now walk c.next_entry.new.self _ c.loop-entry.invariant.walked step;
    }

pub returns-in_err-item-clause-walked : goal.returns-in_err-item-clause-walked
returns-in_err-item-clause-walked c =
    walked_on c.args.walk.now c.loop-entry.walk c.next_entry.new.self _ c.loop-entry.invariant.walked
    c.in-Some.ensures.steps

pub returns-in_err-push-clause-walked : goal.returns-in_err-push-clause-walked
returns-in_err-push-clause-walked c =
    walked_on c.args.walk.now c.loop-entry.walk c.next_entry.new.self _ c.loop-entry.invariant.walked
    c.in-Some.ensures.steps

pub returns-clause-ok : goal.returns-clause-ok
returns-clause-ok c =
    all_found (unshared c.loop-entry.found.items) (to_lend c.loop-entry.walk) (to_lend c.args.walk.now)
    c.in_default.ensures.steps.lent.0 c.loop-entry.invariant.found

pub returns-clause-over : goal.returns-clause-over
returns-clause-over c =
    let walked = c.loop-entry.invariant.walked in
    omega (arith, ap length walked.entries, walked.end, c.in_default.ensures.over)

pub returns-clause-walked : goal.returns-clause-walked
returns-clause-walked c =
    walked_on c.args.walk.now c.loop-entry.walk c.next_entry.new.self _ c.loop-entry.invariant.walked
    c.in_default.ensures.steps
