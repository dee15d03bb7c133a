use Rattle.std.proofs.Common.{◌≡◌, Result, Ok, Err, ap, ◌∙◌, subst}
use Rattle.std.specs.Prelude.{IfOk, OnOk}
use Rattle.siri_subs.specs.Lent.{entry_of}
use Rattle.siri_subscriptions.specs.Courses.{kept_rows}
use Rattle.siri_subscriptions.specs.Noted.{looked_in}
use Rattle.siri_subscriptions.specs.declared.supplies.SupplyAnswer.{SupplyAnswer}
use Rattle.siri_subscriptions.proofs.supplies.supply.Goals as goal

on_ok : {T E P : Type 0} (result : Result T E) → P → OnOk result P
on_ok (Ok value) p = p
on_ok (Err error) p = tt

pub returns-in_ok-delivery-in-Ok-clause-rows : goal.returns-in_ok-delivery-in-Ok-clause-rows
returns-in_ok-delivery-in-Ok-clause-rows c =
    let supplies = c.in-Ok.ensures.ok c.args.now in
    ap kept_rows (c.supply_part.ensures (entry_of c.in-Ok.asked.row) supplies.there) ∙ supplies.rows

pub returns-in_ok-delivery-in-Ok-clause-looked : goal.returns-in_ok-delivery-in-Ok-clause-looked
returns-in_ok-delivery-in-Ok-clause-looked c =
    let supplies = c.in-Ok.ensures.ok c.args.now in
    ap looked_in (c.supply_part.ensures (entry_of c.in-Ok.asked.row) supplies.there) ∙ supplies.looked

pub returns-in-Err-clause-answer : goal.returns-in-Err-clause-answer
returns-in-Err-clause-answer c =
    subst (λ a. IfOk c.not_supplied.result (λ (answer : SupplyAnswer). answer ≡ a))
    (c.in-Err.ensures.answer c.args.producer.now c.args.now) c.not_supplied.ensures

pub returns-in-Err-clause-rows : goal.returns-in-Err-clause-rows
returns-in-Err-clause-rows c = on_ok c.not_supplied.result (c.in-Err.ensures.err c.args.now)
