use Rattle.std.proofs.Common.{sym, ap, ◌∙◌}
use Rattle.siri_subs.proofs.Mapped.{renumber_mapped}
use Rattle.siri_subscriptions.specs.Courses.{kept, kept_rows}
use Rattle.siri_subscriptions.specs.Noted.{noted_rows}
use Rattle.siri_subscriptions.proofs.Renewed.{keeps_answer, keeps_kept, keeps_noted, renews_kept, renews_noted}
use Rattle.siri_subscriptions.proofs.renewals.renumber.Goals as goal

pub returns-in-Some-clause-answer : goal.returns-in-Some-clause-answer
returns-in-Some-clause-answer c =
    let r = c.args.request.now in
    let m = r.extensions in
    c.renumber.ensures.answer
    ∙ sym (renumber_mapped kept m.number m.round r.consumer_ref m.subscription c.args.table.now)

pub returns-in-Some-clause-rows : goal.returns-in-Some-clause-rows
returns-in-Some-clause-rows c =
    let r = c.args.request.now in
    let m = r.extensions in
    ap kept_rows c.renumber.ensures.table
    ∙ renews_kept r.consumer_ref m.subscription m.number m.round c.args.now c.args.table.now c.in-Some.course
    c.in-Some.ensures.once c.in-Some.ensures.kept

pub returns-in-Some-clause-noted : goal.returns-in-Some-clause-noted
returns-in-Some-clause-noted c =
    let r = c.args.request.now in
    let m = r.extensions in
    ap noted_rows c.renumber.ensures.table
    ∙ renews_noted r.consumer_ref m.subscription m.number m.round c.args.now c.args.table.now c.in-Some.course
    c.in-Some.ensures.once c.in-Some.ensures.looked c.in-Some.ensures.kept

pub returns-in-None-clause-answer : goal.returns-in-None-clause-answer
returns-in-None-clause-answer c =
    let r = c.args.request.now in
    let m = r.extensions in
    keeps_answer r.consumer_ref m.subscription m.number m.round c.args.now c.args.table.now c.in-None.ensures.kept

pub returns-in-None-clause-rows : goal.returns-in-None-clause-rows
returns-in-None-clause-rows c =
    let r = c.args.request.now in
    let m = r.extensions in
    keeps_kept r.consumer_ref m.subscription m.number m.round c.args.now c.args.table.now c.in-None.ensures.kept

pub returns-in-None-clause-noted : goal.returns-in-None-clause-noted
returns-in-None-clause-noted c =
    let r = c.args.request.now in
    let m = r.extensions in
    keeps_noted r.consumer_ref m.subscription m.number m.round c.args.now c.args.table.now c.in-None.ensures.kept
