use Rattle.std.proofs.Common.{◌≡◌, Some, None, sym, ap, ◌∙◌, option_map}
use Rattle.std.specs.Prelude.{find}
use Rattle.std.proofs.lemmas.Bool.{eq-eqb, ne_eqb}
use Rattle.siri_subs.specs.Lent.{entry_of}
use Rattle.siri_subs.specs.Table.{is_of, renumber_answer}
use Rattle.siri_subscriptions.specs.Courses.{kept_row, kept_rows}
use Rattle.siri_subscriptions.proofs.Kept.{found_kept}
use Rattle.siri_subscriptions.proofs.Renewed.{refused_based, refused_none, refused_other}
use Rattle.siri_subscriptions.proofs.renewals.refusal.Goals as goal

pub returns-in-Some : goal.returns-in-Some
returns-in-Some c = λ why e.
    let r = c.args.request.now in
    let m = r.extensions in
    let h = kept_row (entry_of c.in-Some.row) in
    let there : find (is_of r.consumer_ref m.subscription) (kept_rows c.args.table.now) ≡ Some h =
    found_kept r.consumer_ref m.subscription c.args.table.now ∙ ap (option_map kept_row) (sym c.in-Some.ensures) in
    refused_based m.number m.round why h (eq-eqb h.base m.round c.if-held-mark.true)
    (sym (ap (renumber_answer m.number m.round) there) ∙ e)

pub returns-in_default : goal.returns-in_default
returns-in_default c = λ why e.
    let r = c.args.request.now in
    let m = r.extensions in
    let h = kept_row (entry_of c.in-Some.row) in
    let there : find (is_of r.consumer_ref m.subscription) (kept_rows c.args.table.now) ≡ Some h =
    found_kept r.consumer_ref m.subscription c.args.table.now ∙ ap (option_map kept_row) (sym c.in-Some.ensures) in
    refused_other m.number m.round why h (ne_eqb h.base m.round c.if-held-mark.false)
    (sym (ap (renumber_answer m.number m.round) there) ∙ e)

pub returns-in_default-2 : goal.returns-in_default-2
returns-in_default-2 c = λ why e.
    let r = c.args.request.now in
    let m = r.extensions in
    let there : find (is_of r.consumer_ref m.subscription) (kept_rows c.args.table.now) ≡ None =
    found_kept r.consumer_ref m.subscription c.args.table.now
    ∙ ap (option_map kept_row) (sym c.held.ensures ∙ ap (option_map entry_of) c.in_default.is) in
    refused_none m.number m.round why (sym (ap (renumber_answer m.number m.round) there) ∙ e)
