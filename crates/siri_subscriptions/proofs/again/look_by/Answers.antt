use Rattle.std.proofs.Common.{◌≡◌, ap, sym, subst, cond, not, length, ◌+◌, ◌≤◌, ◌∙◌, Some}
use Rattle.siri_records.specs.Keyed.{Items, InOrder}
use Rattle.std.specs.Map.{keys_of}
use Rattle.siri_change.specs.Changes as change
use Rattle.siri_change.specs.Looks.{AgreeOutside}
use Rattle.siri_change.specs.Parts as part
use Rattle.siri_subs.specs.Lent.{entry_of}
use Rattle.siri_model.specs.Direct.{direct_to, shown}
use Rattle.siri_model.proofs.Lawful.{unlimited}
use Rattle.siri_subscriptions.proofs.ByKeys.{found_ordered, found_again}
use Rattle.siri_subscriptions.proofs.Told.{found_none, apart_told, outside_told, apart_none, found_some, bound_told}
use Rattle.siri_subscriptions.proofs.again.look_by.Goals as goal

pub others-requires : goal.others-requires
others-requires c =
    found_ordered c.args.responder.now
    (entry_of c.args.entry.now) c.args.looked.now c.requires.live c.requires.follows c.requires.level c.requires.limitless
    c.args.found.now c.requires.found

pub returns-then-not-is_round_due-clause-found : goal.returns-then-not-is_round_due-clause-found
returns-then-not-is_round_due-clause-found c =
    found_none (c.args.responder.now)
    (entry_of c.args.entry.now) c.args.looked.now c.requires.live c.requires.follows c.requires.level c.requires.limitless
    (subst InOrder c.acknowledged.ensures c.view_is_in_order.ensures) c.args.found.now c.requires.found c.acknowledged-2.result.now c.acknowledged-2.ensures
    c.now.result c.now.ensures c.in_ok-changes.changes c.in_ok-changes.ensures c.in_ok-left.left c.in_ok-left.ensures
    c.are_none-is_level.result c.are_none-is_level.ensures c.last.result c.last.ensures c.is_round_due.result c.is_round_due.ensures.due c.is_round_due.ensures.room
    c.if-not-is_round_due.true

pub returns-then-not-is_round_due-clause-apart : goal.returns-then-not-is_round_due-clause-apart
returns-then-not-is_round_due-clause-apart c =
    apart_told (c.args.responder.now)
    (entry_of c.args.entry.now) c.args.looked.now c.requires.live c.requires.follows c.requires.level c.requires.limitless
    (subst InOrder c.acknowledged.ensures c.view_is_in_order.ensures) c.args.found.now c.requires.found c.acknowledged-2.result.now c.acknowledged-2.ensures
    c.now.result c.now.ensures c.in_ok-changes.changes c.in_ok-changes.ensures c.in_ok-left.left c.in_ok-left.ensures
    c.are_none-is_level.result c.are_none-is_level.ensures c.last.result c.last.ensures c.is_round_due.result c.is_round_due.ensures.due c.is_round_due.ensures.room
    c.in_ok-apart.apart c.in_ok-apart.ensures c.if-not-is_round_due.true

pub opening-requires-clause-found : goal.opening-requires-clause-found
opening-requires-clause-found c =
    found_again c.args.responder.now
    (entry_of c.args.entry.now) c.args.looked.now c.requires.live c.requires.follows c.requires.level c.requires.limitless
    c.args.found.now c.requires.found

pub opening-requires-clause-keys : goal.opening-requires-clause-keys
opening-requires-clause-keys c =
    found_ordered c.args.responder.now
    (entry_of c.args.entry.now) c.args.looked.now c.requires.live c.requires.follows c.requires.level c.requires.limitless
    c.args.found.now c.requires.found

pub opening-requires-clause-outside : goal.opening-requires-clause-outside
opening-requires-clause-outside c =
    let row = entry_of c.args.entry.now in
    let direct = shown c.args.responder.now.moment c.args.responder.now.held row.wanted.topic in
    let same = unlimited c.args.responder.now.moment c.args.responder.now.held row.wanted.topic c.requires.limitless in
    subst (λ (v : Items). AgreeOutside row.wanted.slack v direct (keys_of c.args.found.now))
    (c.acknowledged-2.ensures ∙ sym c.acknowledged-3.ensures)
    (subst (λ (d : Items). AgreeOutside row.wanted.slack c.acknowledged-2.result.now d (keys_of c.args.found.now)) same
    (outside_told (c.args.responder.now)
    (entry_of c.args.entry.now) c.args.looked.now c.requires.live c.requires.follows c.requires.level c.requires.limitless
    (subst InOrder c.acknowledged.ensures c.view_is_in_order.ensures) c.args.found.now c.requires.found c.acknowledged-2.result.now c.acknowledged-2.ensures
    c.now.result c.now.ensures c.in_ok-changes.changes c.in_ok-changes.ensures c.in_ok-left.left c.in_ok-left.ensures
    c.are_none-is_level.result c.are_none-is_level.ensures c.last.result c.last.ensures c.is_round_due.result c.is_round_due.ensures.due c.is_round_due.ensures.room
    c.if-not-is_round_due.false))

pub returns-in_err-opening-clause-bound : goal.returns-in_err-opening-clause-bound
returns-in_err-opening-clause-bound c =
    bound_told (c.args.responder.now)
    (entry_of c.args.entry.now) c.args.looked.now c.requires.live c.requires.follows c.requires.level c.requires.limitless
    (subst InOrder c.acknowledged.ensures c.view_is_in_order.ensures) c.args.found.now c.requires.found c.acknowledged-2.result.now c.acknowledged-2.ensures
    c.now.result c.now.ensures c.in_ok-changes.changes c.in_ok-changes.ensures c.in_ok-left.left c.in_ok-left.ensures
    c.are_none-is_level.result c.are_none-is_level.ensures c.last.result c.last.ensures c.is_round_due.result c.is_round_due.ensures.due c.is_round_due.ensures.room
    c.if-not-is_round_due.false c.args.responder.now.reads c.opening.new.responder.reads
    (subst (λ (d : Items). c.opening.new.responder.reads ≤ c.args.responder.now.reads + cond (not (entry_of c.args.entry.now).wanted.incremental) (length d) 0)
    (sym (unlimited c.args.responder.now.moment c.args.responder.now.held (entry_of c.args.entry.now).wanted.topic c.requires.limitless))
    c.in_err-opening.ensures.reads)

pub returns-clause-found : goal.returns-clause-found
returns-clause-found c =
    let row = entry_of c.args.entry.now in
    let opening = c.in_ok-opening.opening in
    let view = c.acknowledged-3.ensures ∙ sym c.acknowledged-2.ensures in
    let same = unlimited c.args.responder.now.moment c.args.responder.now.held row.wanted.topic c.requires.limitless in
    let goal : change.target row.wanted.slack row.wanted.incremental c.acknowledged-3.result.now (shown c.args.responder.now.moment c.args.responder.now.held row.wanted.topic)
    ≡ change.target row.wanted.slack row.wanted.incremental c.acknowledged-2.result.now (direct_to c.args.responder.now.moment c.args.responder.now.held row.wanted.topic)
    = λ i. change.target row.wanted.slack row.wanted.incremental (view i) (sym same i) in
    found_some (c.args.responder.now)
    (entry_of c.args.entry.now) c.args.looked.now c.requires.live c.requires.follows c.requires.level c.requires.limitless
    (subst InOrder c.acknowledged.ensures c.view_is_in_order.ensures) c.args.found.now c.requires.found c.acknowledged-2.result.now c.acknowledged-2.ensures
    c.now.result c.now.ensures c.in_ok-changes.changes c.in_ok-changes.ensures c.in_ok-left.left c.in_ok-left.ensures
    c.are_none-is_level.result c.are_none-is_level.ensures c.last.result c.last.ensures c.is_round_due.result c.is_round_due.ensures.due c.is_round_due.ensures.room
    c.if-not-is_round_due.false opening
    (ap (λ v. part.led_to v opening.incremental opening.changes) (sym view) ∙ (c.in_ok-opening.ensures.leads ∙ goal))
    (c.in_ok-opening.ensures.changes ∙ (λ i. part.load (view i) (goal i) row.wanted.incremental))
    (subst (λ (v : Items). length (part.base_view v opening.incremental) + length opening.changes ≤ opening.room) view
    c.in_ok-opening.ensures.fits)

pub returns-clause-apart : goal.returns-clause-apart
returns-clause-apart c =
    ap Some c.new.ensures ∙ apart_none (c.args.responder.now)
    (entry_of c.args.entry.now) c.args.looked.now c.requires.live c.requires.follows c.requires.level c.requires.limitless
    (subst InOrder c.acknowledged.ensures c.view_is_in_order.ensures) c.args.found.now c.requires.found c.acknowledged-2.result.now c.acknowledged-2.ensures
    c.now.result c.now.ensures c.in_ok-changes.changes c.in_ok-changes.ensures c.in_ok-left.left c.in_ok-left.ensures
    c.are_none-is_level.result c.are_none-is_level.ensures c.last.result c.last.ensures c.is_round_due.result c.is_round_due.ensures.due c.is_round_due.ensures.room
    c.if-not-is_round_due.false

pub returns-clause-bound : goal.returns-clause-bound
returns-clause-bound c =
    bound_told (c.args.responder.now)
    (entry_of c.args.entry.now) c.args.looked.now c.requires.live c.requires.follows c.requires.level c.requires.limitless
    (subst InOrder c.acknowledged.ensures c.view_is_in_order.ensures) c.args.found.now c.requires.found c.acknowledged-2.result.now c.acknowledged-2.ensures
    c.now.result c.now.ensures c.in_ok-changes.changes c.in_ok-changes.ensures c.in_ok-left.left c.in_ok-left.ensures
    c.are_none-is_level.result c.are_none-is_level.ensures c.last.result c.last.ensures c.is_round_due.result c.is_round_due.ensures.due c.is_round_due.ensures.room
    c.if-not-is_round_due.false c.args.responder.now.reads c.opening.new.responder.reads
    (subst (λ (d : Items). c.opening.new.responder.reads ≤ c.args.responder.now.reads + cond (not (entry_of c.args.entry.now).wanted.incremental) (length d) 0)
    (sym (unlimited c.args.responder.now.moment c.args.responder.now.held (entry_of c.args.entry.now).wanted.topic c.requires.limitless))
    c.in_ok-opening.ensures.reads)
