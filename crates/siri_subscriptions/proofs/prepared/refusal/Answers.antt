use Rattle.std.proofs.Common.{sym, ap, ◌∙◌, option_map, Some, None}
use Rattle.siri_subs.specs.Lent.{entry_of}
use Rattle.siri_subscriptions.specs.Courses.{kept_rows}
use Rattle.siri_subscriptions.proofs.Kept.{number_held}
use Rattle.siri_subscriptions.proofs.Accepted.{refused_before, refused_after, refused_new}
use Rattle.siri_subscriptions.proofs.prepared.refusal.Goals as goal

pub returns-in-Some : goal.returns-in-Some
returns-in-Some c =
    let w = c.args.wanted.now in
    let table = c.args.table.now in
    let h = entry_of c.in-Some.row in
    refused_before c.args.now c.args.number (kept_rows table) w h.number (sym c.is_over.ensures ∙ c.if-is_over.false)
    (number_held w.subscriber w.identifier table (Some h) c.in-Some.ensures) c.if-held-number.true

pub returns-in_default : goal.returns-in_default
returns-in_default c =
    let w = c.args.wanted.now in
    let table = c.args.table.now in
    let h = entry_of c.in-Some.row in
    refused_after c.args.now c.args.number (kept_rows table) w h.number (sym c.is_over.ensures ∙ c.if-is_over.false)
    (number_held w.subscriber w.identifier table (Some h) c.in-Some.ensures) c.if-held-number.false

pub returns-in_default-2 : goal.returns-in_default-2
returns-in_default-2 c =
    let w = c.args.wanted.now in
    let table = c.args.table.now in
    refused_new c.args.now c.args.number (kept_rows table) w (sym c.is_over.ensures ∙ c.if-is_over.false)
    (number_held w.subscriber w.identifier table None
    (sym (ap (option_map entry_of) c.in_default.is) ∙ c.held.ensures))
