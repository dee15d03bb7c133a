use Rattle.std.proofs.Common.{◌≡◌, [], ◌∷◌, ◌++◌, refl, ap, arith, ◌∙◌}
use Rattle.std.specs.Prelude.{length}
use Rattle.siri_records.specs.declared.key.Key.{Key}
use Rattle.siri_records.specs.declared.item.Item.{Item}
use Rattle.siri_store.specs.Walk.{entries_to_lend}
use Rattle.siri_store.proofs.Gathered.{next_above, found_one, all_found, walked_none, walked_on}
use Rattle.siri_store.proofs.walk.shown_entries.Goals as goal

pub loop-entry-init : goal.loop-entry-init
loop-entry-init c = record {
  found = rw c.new-found.ensures refl;
  walked = walked_none c.args.walk.now;
}

pub loop-entry-preserved : goal.loop-entry-preserved
loop-entry-preserved c =
    let walk = c.loop-entry.walk in
    let e : Key × Item = (c.in-Some.entry.0.now, c.in-Some.entry.1.now.value) in
    let pair : ◌≡◌ {A = Key × Item} (c.in_ok-key.key, c.in_ok-item.item.value) e =
    λ j. (c.in_ok-key.ensures j, c.in_ok-item.ensures.cases j) in
    record {
      found = found_one _ _ _ _ _ e
          (c.in_ok-push_last.ensures.ok ∙ ap (λ (x : Key × Item). c.loop-entry.found ++ x ∷ []) pair)
          c.in-Some.ensures.lent c.loop-entry.invariant.found;
      walked =
          walked_on c.args.walk.now walk c.next_entry.new.self _ c.loop-entry.invariant.walked c.in-Some.ensures.steps;
    }

pub push_last-requires : goal.push_last-requires
push_last-requires c =
    let e : Key × Item = (c.in-Some.entry.0.now, c.in-Some.entry.1.now.value) in
    rw c.in_ok-key.ensures
    (next_above c.loop-entry.found _ _ _ e c.requires c.loop-entry.invariant.found c.in-Some.ensures.lent)

pub returns-in_err-item-clause-walked : goal.returns-in_err-item-clause-walked
returns-in_err-item-clause-walked c =
    walked_on c.args.walk.now c.loop-entry.walk c.next_entry.new.self _ c.loop-entry.invariant.walked
    c.in-Some.ensures.steps

pub returns-in_err-key-clause-walked : goal.returns-in_err-key-clause-walked
returns-in_err-key-clause-walked c =
    walked_on c.args.walk.now c.loop-entry.walk c.next_entry.new.self _ c.loop-entry.invariant.walked
    c.in-Some.ensures.steps

pub returns-in_err-push_last-clause-walked : goal.returns-in_err-push_last-clause-walked
returns-in_err-push_last-clause-walked c =
    walked_on c.args.walk.now c.loop-entry.walk c.next_entry.new.self _ c.loop-entry.invariant.walked
    c.in-Some.ensures.steps

pub returns-clause-ok : goal.returns-clause-ok
returns-clause-ok c =
    all_found c.loop-entry.found (entries_to_lend c.loop-entry.walk) (entries_to_lend c.args.walk.now)
    c.in_default.ensures.lent c.loop-entry.invariant.found

pub returns-clause-over : goal.returns-clause-over
returns-clause-over c =
    let walked = c.loop-entry.invariant.walked in
    omega (arith, ap length walked.entries, walked.end, c.in_default.ensures.over)

pub returns-clause-walked : goal.returns-clause-walked
returns-clause-walked c =
    walked_on c.args.walk.now c.loop-entry.walk c.next_entry.new.self _ c.loop-entry.invariant.walked
    c.in_default.ensures.steps
