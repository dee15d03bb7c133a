use Rattle.std.proofs.Common.{ap, ◌∙◌}
use Rattle.siri_subs.specs.Lent.{entry_of}
use Rattle.siri_subscriptions.specs.Courses.{kept_rows}
use Rattle.siri_subscriptions.specs.Noted.{looked_in}
use Rattle.siri_subscriptions.specs.declared.supplies.SupplyAnswer.{SupplyAnswer}
use Rattle.siri_subscriptions.proofs.supplies.supply_lent.Goals as goal

pub returns-in-Ok-clause-outcome : goal.returns-in-Ok-clause-outcome
returns-in-Ok-clause-outcome c = λ producer.
    ap (λ (answer : SupplyAnswer). answer.outcome) (c.in-Ok.ensures.answer producer c.args.now)

pub returns-in-Ok-clause-rows : goal.returns-in-Ok-clause-rows
returns-in-Ok-clause-rows c =
    let supplies = c.in-Ok.ensures.ok c.args.now in
    ap kept_rows (c.supply_part.ensures (entry_of c.in-Ok.asked.row) supplies.there) ∙ supplies.rows

pub returns-in-Ok-clause-looked : goal.returns-in-Ok-clause-looked
returns-in-Ok-clause-looked c =
    let supplies = c.in-Ok.ensures.ok c.args.now in
    ap looked_in (c.supply_part.ensures (entry_of c.in-Ok.asked.row) supplies.there) ∙ supplies.looked

pub returns-in-Err-clause-outcome : goal.returns-in-Err-clause-outcome
returns-in-Err-clause-outcome c = λ producer.
    ap (λ (answer : SupplyAnswer). answer.outcome) (c.in-Err.ensures.answer producer c.args.now)

pub returns-in-Err-clause-rows : goal.returns-in-Err-clause-rows
returns-in-Err-clause-rows c = c.in-Err.ensures.err c.args.now
