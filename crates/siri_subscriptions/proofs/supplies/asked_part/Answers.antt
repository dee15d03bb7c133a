use Rattle.std.proofs.Common.{sym, ap, ◌∙◌, option_map, refl}
use Rattle.siri_life.specs.Slot.{with_supply}
use Rattle.siri_subs.specs.Lent.{entry_of}
use Rattle.siri_subscriptions.specs.Supplies.{supply_in, supply_answer}
use Rattle.siri_subscriptions.proofs.Marked.{row_there, here_at, looked_here}
use Rattle.siri_subscriptions.proofs.Supplied.{finds_none, finds_row, none_supplied, same_supplied, own_supplied}
use Rattle.siri_subscriptions.proofs.supplies.asked_part.Goals as goal

pub returns-in_default-clause-answer : goal.returns-in_default-clause-answer
unfolding supply_answer
returns-in_default-clause-answer c = λ producer now.
    let r = c.args.request.now in
    sym (ap (supply_in producer c.args.start now r.extensions)
    (finds_none c.args.start now r.consumer_ref r.extensions c.args.table.now
    (sym c.place_of.ensures.place ∙ c.in_default.is)))

pub returns-in_default-clause-err : goal.returns-in_default-clause-err
returns-in_default-clause-err c = λ now.
    let r = c.args.request.now in
    none_supplied c.args.start now r.consumer_ref r.extensions c.args.table.now
    (sym c.place_of.ensures.place ∙ c.in_default.is)

pub returns-in_default-at-clause-answer : goal.returns-in_default-at-clause-answer
returns-in_default-at-clause-answer c =
    let r = c.args.request.now in
    absurd (row_there r.consumer_ref r.extensions.subscription c.args.table.now c.in-Some.place
    (sym c.place_of.ensures.place ∙ c.in-Some.is)
    (sym (ap (option_map entry_of) c.in_default-at.is) ∙ c.at.ensures))

pub returns-in_default-at-clause-err : goal.returns-in_default-at-clause-err
returns-in_default-at-clause-err c =
    let r = c.args.request.now in
    absurd (row_there r.consumer_ref r.extensions.subscription c.args.table.now c.in-Some.place
    (sym c.place_of.ensures.place ∙ c.in-Some.is)
    (sym (ap (option_map entry_of) c.in_default-at.is) ∙ c.at.ensures))

pub returns-in-Ok-clause-answer : goal.returns-in-Ok-clause-answer
unfolding supply_answer
returns-in-Ok-clause-answer c = λ producer now.
    let r = c.args.request.now in
    let h = entry_of c.in-Some-at.row in
    let place = sym c.place_of.ensures.place ∙ c.in-Some.is in
    let here = here_at r.consumer_ref r.extensions.subscription c.args.table.now c.in-Some.place h
    c.place_of.ensures.once place (sym (ap (option_map entry_of) c.in-Some-at.is) ∙ c.at.ensures) in
    c.in-Ok.ensures.answer producer now
    ∙ sym (ap (supply_in producer c.args.start now r.extensions)
    (finds_row c.args.start now r.consumer_ref r.extensions c.args.table.now c.in-Some.place h here place))

pub returns-in-Ok-clause-ok : goal.returns-in-Ok-clause-ok
returns-in-Ok-clause-ok c = λ now.
    let r = c.args.request.now in
    let m = r.extensions in
    let h = entry_of c.in-Some-at.row in
    let place = sym c.place_of.ensures.place ∙ c.in-Some.is in
    let here = here_at r.consumer_ref m.subscription c.args.table.now c.in-Some.place h c.place_of.ensures.once
    place (sym (ap (option_map entry_of) c.in-Some-at.is) ∙ c.at.ensures) in
    record {
      there = here.row;
      rows = own_supplied c.args.start now r.consumer_ref m c.args.table.now c.in-Some.place h here
          (sym c.in-Ok.ensures.supplied);
      looked = looked_here r.consumer_ref m.subscription c.args.table.now c.in-Some.place h here h.slot refl
          (with_supply h.slot.rounds m.round m.part now);
    }

pub returns-in-Err-clause-answer : goal.returns-in-Err-clause-answer
unfolding supply_answer
returns-in-Err-clause-answer c = λ producer now.
    let r = c.args.request.now in
    let h = entry_of c.in-Some-at.row in
    let place = sym c.place_of.ensures.place ∙ c.in-Some.is in
    let here = here_at r.consumer_ref r.extensions.subscription c.args.table.now c.in-Some.place h
    c.place_of.ensures.once place (sym (ap (option_map entry_of) c.in-Some-at.is) ∙ c.at.ensures) in
    c.in-Err.ensures.answer producer now
    ∙ sym (ap (supply_in producer c.args.start now r.extensions)
    (finds_row c.args.start now r.consumer_ref r.extensions c.args.table.now c.in-Some.place h here place))

pub returns-in-Err-clause-err : goal.returns-in-Err-clause-err
returns-in-Err-clause-err c = λ now.
    let r = c.args.request.now in
    let h = entry_of c.in-Some-at.row in
    let place = sym c.place_of.ensures.place ∙ c.in-Some.is in
    let here = here_at r.consumer_ref r.extensions.subscription c.args.table.now c.in-Some.place h
    c.place_of.ensures.once place (sym (ap (option_map entry_of) c.in-Some-at.is) ∙ c.at.ensures) in
    same_supplied c.args.start now r.consumer_ref r.extensions c.args.table.now c.in-Some.place h here
    (sym c.in-Err.ensures.supplied)
