use Rattle.std.proofs.Common.{◌∙◌, ap, sym, arith, not}
use Rattle.siri_records.specs.Keyed.{deref_entry}
use Rattle.siri_records.proofs.Placed.{below_length}
use Rattle.siri_change.proofs.Walks.{met_past, unmet_longer, unmet_shorter, apart_here, met_here}
use Rattle.siri_change.proofs.difference.differ.Goals as goal

pub returns-then-not-near_entries : goal.returns-then-not-near_entries
returns-then-not-near_entries c =
    apart_here c.args.slack c.args.view.now c.args.wanted.now c.loop-held.place (deref_entry c.in-Some-Some.held)
    (deref_entry c.in-Some-Some.entry) c.near_entries.result
    c.in-Some-Some.ensures.ordered c.in-Some-Some.ensures'.ordered c.in-Some-Some.ensures.entry c.in-Some-Some.ensures'.entry
    c.near_entries.ensures c.if-not-near_entries.true c.loop-held.invariant

pub returns-in-None-None : goal.returns-in-None-None
returns-in-None-None c =
    sym (ap not (sym c.loop-held.invariant ∙ met_past c.args.slack c.args.view.now c.args.wanted.now c.loop-held.place
    c.in-None-None.ensures.entry c.in-None-None.ensures'.entry))

pub returns-in-Some-None : goal.returns-in-Some-None
returns-in-Some-None c =
    sym (ap not (sym c.loop-held.invariant ∙ unmet_longer c.args.slack c.args.view.now c.args.wanted.now
    c.loop-held.place (deref_entry c.in-Some-None.field-0-0) c.in-Some-None.ensures.entry
    c.in-Some-None.ensures'.entry))

pub returns-in-None-Some : goal.returns-in-None-Some
returns-in-None-Some c =
    sym (ap not (sym c.loop-held.invariant ∙ unmet_shorter c.args.slack c.args.view.now c.args.wanted.now
    c.loop-held.place (deref_entry c.in-None-Some.field-0-1) c.in-None-Some.ensures'.ordered
    c.in-None-Some.ensures.entry c.in-None-Some.ensures'.entry))

pub loop-held-smaller : goal.loop-held-smaller
loop-held-smaller c =
    let lt = below_length c.args.view.now c.loop-held.place (deref_entry c.in-Some-Some.held) (sym c.in-Some-Some.ensures.entry) in
    omega (arith, lt)

pub loop-held-preserved : goal.loop-held-preserved
loop-held-preserved c =
    met_here c.args.slack c.args.view.now c.args.wanted.now c.loop-held.place (deref_entry c.in-Some-Some.held)
    (deref_entry c.in-Some-Some.entry) c.near_entries.result
    c.in-Some-Some.ensures.ordered c.in-Some-Some.ensures'.ordered c.in-Some-Some.ensures.entry c.in-Some-Some.ensures'.entry
    c.near_entries.ensures c.if-not-near_entries.false c.loop-held.invariant
