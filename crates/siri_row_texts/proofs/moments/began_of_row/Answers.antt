use Rattle.std.proofs.Common.{◌≡◌, sym, ◌∙◌}
use Rattle.std.proofs.lemmas.Result.{IfOk-weaker}
use Rattle.siri_row_texts.specs.Reading.{began_of_row, if_begun}
use Rattle.siri_row_texts.proofs.Begun.{none_begun, some_begun}
use Rattle.siri_row_texts.proofs.moments.began_of_row.Goals as goal

pub returns-in_default : goal.returns-in_default
returns-in_default c = none_begun c.args.text.now c.in_default.ensures.cases.0

pub returns-in-Some : goal.returns-in-Some
returns-in-Some c = IfOk-weaker c.if_begun.result
    (λ began. began ≡ if_begun c.args.text.now c.in-Some.began) (λ began. began ≡ began_of_row c.args.text.now)
    (λ began is. is ∙ sym (some_begun c.args.text.now c.in-Ok.whole.now _ c.in-Ok.ensures.cases.0 c.in-Ok.ensures.cases.1
    (sym c.in_ok-began.ensures ∙ c.in-Some.is)))
    c.if_begun.ensures
