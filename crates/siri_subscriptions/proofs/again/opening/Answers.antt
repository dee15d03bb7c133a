use Rattle.std.proofs.Common.{ap, ◌∙◌, arith}
use Rattle.std.specs.Map.{keys_of}
use Rattle.siri_change.specs.Changes as change
use Rattle.siri_change.specs.Parts as part
use Rattle.siri_change.proofs.InParts.{load_applied, target_order}
use Rattle.siri_model.specs.Direct.{shown}
use Rattle.siri_model.specs.Looks.{changes_found}
use Rattle.siri_model.proofs.Lawful.{shown_in_order}
use Rattle.siri_subscriptions.proofs.Opened.{carries}
use Rattle.siri_subscriptions.proofs.Shown.{all_found, few_read}
use Rattle.siri_subscriptions.proofs.again.opening.Goals as goal

pub returns-in_err-target-clause-reads : goal.returns-in_err-target-clause-reads
returns-in_err-target-clause-reads c =
    let wanted = c.args.wanted.now in
    let few = few_read c.args.responder.now wanted.topic c.requires.live.ordered wanted.slack c.args.view.now
    (keys_of c.args.found.now) c.requires.outside
    c.requires.ordered c.args.found.now c.requires.found in
    rw c.if-not-wanted.true (omega (arith, few, c.in_err-target.ensures.reads))

pub returns-in_err-changes-clause-reads : goal.returns-in_err-changes-clause-reads
returns-in_err-changes-clause-reads c =
    let wanted = c.args.wanted.now in
    let few = few_read c.args.responder.now wanted.topic c.requires.live.ordered wanted.slack c.args.view.now
    (keys_of c.args.found.now) c.requires.outside
    c.requires.ordered c.args.found.now c.requires.found in
    rw c.if-not-wanted.true (omega (arith, few, c.in_ok-target.ensures.reads))

pub returns-in_err-opening-clause-reads : goal.returns-in_err-opening-clause-reads
returns-in_err-opening-clause-reads c =
    let wanted = c.args.wanted.now in
    let few = few_read c.args.responder.now wanted.topic c.requires.live.ordered wanted.slack c.args.view.now
    (keys_of c.args.found.now) c.requires.outside
    c.requires.ordered c.args.found.now c.requires.found in
    rw c.if-not-wanted.true (omega (arith, few, c.in_ok-target.ensures.reads))

pub returns-then-not-wanted-clause-changes : goal.returns-then-not-wanted-clause-changes
returns-then-not-wanted-clause-changes c =
    let wanted = c.args.wanted.now in
    rw c.if-not-wanted.true (c.in_ok-opening.ensures.changes ∙ (c.in_ok-changes.ensures ∙ ap part.whole (c.in_ok-target.ensures.shown
    ∙ all_found c.args.responder.now wanted.topic c.requires.live.ordered wanted.slack c.args.view.now
    (keys_of c.args.found.now) c.requires.outside
    c.args.found.now c.requires.found)))

pub returns-then-not-wanted-clause-leads : goal.returns-then-not-wanted-clause-leads
returns-then-not-wanted-clause-leads c =
    let wanted = c.args.wanted.now in
    let known = c.args.responder.now in
    (λ i. part.led_to c.args.view.now (c.in_ok-opening.ensures.incremental i) (returns-then-not-wanted-clause-changes c i))
    ∙ load_applied c.args.view.now
    (change.target wanted.slack wanted.incremental c.args.view.now (shown known.moment known.held wanted.topic)) wanted.incremental
    c.requires.ordered (target_order wanted.slack wanted.incremental c.args.view.now
    (shown known.moment known.held wanted.topic) (shown_in_order known.moment known.held wanted.topic c.requires.live.ordered))

pub returns-then-not-wanted-clause-reads : goal.returns-then-not-wanted-clause-reads
returns-then-not-wanted-clause-reads c =
    let wanted = c.args.wanted.now in
    let few = few_read c.args.responder.now wanted.topic c.requires.live.ordered wanted.slack c.args.view.now
    (keys_of c.args.found.now) c.requires.outside
    c.requires.ordered c.args.found.now c.requires.found in
    rw c.if-not-wanted.true (omega (arith, few, c.in_ok-target.ensures.reads))

pub returns-clause-changes : goal.returns-clause-changes
returns-clause-changes c =
    let wanted = c.args.wanted.now in
    let known = c.args.responder.now in
    rw c.if-not-wanted.false (c.in_ok-opening-2.ensures.changes
    ∙ carries known.moment known.held wanted.topic wanted.slack c.args.view.now
    (keys_of c.args.found.now) c.requires.live.ordered
    c.requires.ordered c.requires.keys c.requires.outside c.args.changes
    (c.requires.changes ∙ ap (changes_found wanted.slack c.args.view.now wanted.topic known.moment) c.requires.found))

pub returns-clause-leads : goal.returns-clause-leads
returns-clause-leads c =
    let wanted = c.args.wanted.now in
    let known = c.args.responder.now in
    (λ i. part.led_to c.args.view.now (c.in_ok-opening-2.ensures.incremental i) (returns-clause-changes c i))
    ∙ load_applied c.args.view.now
    (change.target wanted.slack wanted.incremental c.args.view.now (shown known.moment known.held wanted.topic)) wanted.incremental
    c.requires.ordered (target_order wanted.slack wanted.incremental c.args.view.now
    (shown known.moment known.held wanted.topic) (shown_in_order known.moment known.held wanted.topic c.requires.live.ordered))
