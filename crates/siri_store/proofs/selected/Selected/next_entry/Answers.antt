use Rattle.std.proofs.Common.{◌≡◌, true, false, arith, rules, ap, sym, ◌∙◌}
use Rattle.std.specs.Map.{values_of}
use Rattle.siri_records.specs.declared.key.Key.{Key}
use Rattle.siri_records.specs.declared.item.Item.{Item}
use Rattle.siri_topic.specs.Shown.{is_shown}
use Rattle.siri_store.proofs.Gathered.{shown_next, unshown_next}
use Rattle.siri_store.proofs.selected.Selected.next_entry.Goals as goal

pub returns-then-shown-clause-lent : goal.returns-then-shown-clause-lent
returns-then-shown-clause-lent c =
    let walk = c.loop-self.self in
    let e : Key × Item = (c.in_ok-entry.entry.now.0, c.in_ok-entry.entry.now.1.value) in
    let shown : is_shown walk.topic.now e.1 walk.moment ≡ true =
    ap (λ i. is_shown walk.topic.now i walk.moment) (sym c.deref.ensures)
    ∙ (sym c.shown.ensures ∙ c.if-shown.true) in
    let is = rw (← c.loop-self.invariant.entries) at c.in_ok-entry.ensures.onward.0 in
    sym c.loop-self.invariant.same
    ∙ shown_next walk.topic.now walk.moment walk.entries.now walk.place walk.end e c.loop-self-test.true is shown

pub returns-then-shown-clause-steps : goal.returns-then-shown-clause-steps
returns-then-shown-clause-steps c =
    let walk = c.loop-self.self in
    let e : Key × Item = (c.in_ok-entry.entry.now.0, c.in_ok-entry.entry.now.1.value) in
    let shown : is_shown walk.topic.now e.1 walk.moment ≡ true =
    ap (λ i. is_shown walk.topic.now i walk.moment) (sym c.deref.ensures)
    ∙ (sym c.shown.ensures ∙ c.if-shown.true) in
    let is = rw (← c.loop-self.invariant.entries) at c.in_ok-entry.ensures.onward.0 in
    let next =
    shown_next walk.topic.now walk.moment walk.entries.now walk.place walk.end e c.loop-self-test.true is shown in
    record {
      lent = ap values_of (sym c.loop-self.invariant.same ∙ next);
      onward = omega (arith, c.loop-self.invariant.onward);
      within = omega (arith, c.loop-self-test.true, c.loop-self.invariant.end);
      end = c.loop-self.invariant.end;
      counter = search rules;
      same_counter = search rules;
      topic = c.loop-self.invariant.topic;
      moment = c.loop-self.invariant.moment;
      entries = c.loop-self.invariant.entries;
    }

pub loop-self-preserved : goal.loop-self-preserved
loop-self-preserved c =
    let walk = c.loop-self.self in
    let e : Key × Item = (c.in_ok-entry.entry.now.0, c.in_ok-entry.entry.now.1.value) in
    let unshown : is_shown walk.topic.now e.1 walk.moment ≡ false =
    ap (λ i. is_shown walk.topic.now i walk.moment) (sym c.deref.ensures)
    ∙ (sym c.shown.ensures ∙ c.if-shown.false) in
    let is = rw (← c.loop-self.invariant.entries) at c.in_ok-entry.ensures.onward.0 in
    let next =
    unshown_next walk.topic.now walk.moment walk.entries.now walk.place walk.end e c.loop-self-test.true is unshown in
    record {
      same = sym next ∙ c.loop-self.invariant.same;
      onward = omega (arith, c.loop-self.invariant.onward);
      within = omega (arith, c.loop-self-test.true, c.loop-self.invariant.end);
      counter = search rules;
      name = search rules;
      topic = c.loop-self.invariant.topic;
      moment = c.loop-self.invariant.moment;
      entries = c.loop-self.invariant.entries;
      end = c.loop-self.invariant.end;
    }
