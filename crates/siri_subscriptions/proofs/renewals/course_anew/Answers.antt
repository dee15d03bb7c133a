use Rattle.std.proofs.Common.{◌≡◌, Some, None, sym, ap, ◌∙◌, option_map, refl}
use Rattle.std.specs.Prelude.{find}
use Rattle.siri_subs.specs.Lent.{entry_of}
use Rattle.siri_subs.specs.Table.{is_of}
use Rattle.siri_model.specs.Rows.{asked_of}
use Rattle.siri_subscriptions.specs.Courses.{kept_row}
use Rattle.siri_subscriptions.specs.Renewing.{anew}
use Rattle.siri_subscriptions.proofs.Kept.{found_by, found_kept, not_found}
use Rattle.siri_subscriptions.proofs.renewals.course_anew.Goals as goal

pub returns-in_default-clause-kept : goal.returns-in_default-clause-kept
returns-in_default-clause-kept c =
    let s = c.args.subscriber.now in
    let i = c.args.identifier.now in
    let table = c.args.table.now in
    sym (ap (option_map (anew c.args.now)) (found_kept s i table
    ∙ ap (option_map kept_row) (not_found s i table (sym c.place_of.ensures.place ∙ c.in_default.is))))

pub returns-in-Some-at-clause-kept : goal.returns-in-Some-at-clause-kept
returns-in-Some-at-clause-kept c =
    let s = c.args.subscriber.now in
    let i = c.args.identifier.now in
    let table = c.args.table.now in
    let h = entry_of c.in-Some-at.row in
    let there : find (is_of s i) table ≡ Some h =
    found_by s i table c.in-Some.place (sym c.place_of.ensures.place ∙ c.in-Some.is)
    ∙ (sym c.at.ensures ∙ ap (option_map entry_of) c.in-Some-at.is) in
    ap Some (c.new.ensures.kept (asked_of (kept_row h)) refl)
    ∙ sym (ap (option_map (anew c.args.now)) (found_kept s i table ∙ ap (option_map kept_row) there))

pub returns-in-None-clause-kept : goal.returns-in-None-clause-kept
returns-in-None-clause-kept c =
    let s = c.args.subscriber.now in
    let i = c.args.identifier.now in
    let table = c.args.table.now in
    let there : find (is_of s i) table ≡ None =
    found_by s i table c.in-Some.place (sym c.place_of.ensures.place ∙ c.in-Some.is)
    ∙ (sym c.at.ensures ∙ ap (option_map entry_of) c.in-None.is) in
    sym (ap (option_map (anew c.args.now)) (found_kept s i table ∙ ap (option_map kept_row) there))
