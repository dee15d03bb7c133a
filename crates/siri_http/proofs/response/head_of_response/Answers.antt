use Rattle.std.proofs.Common.{ap, length}
use Rattle.std.proofs.lemmas.Result.{err_from_is_err_and}
use Rattle.siri_http.proofs.Saying.{response_partial, response_overflows, response_short, response_failed, response_said}
use Rattle.siri_http.proofs.response.head_of_response.Goals as goal

pub returns-in-Ok-Partial-clause-says : goal.returns-in-Ok-Partial-clause-says
returns-in-Ok-Partial-clause-says c = response_partial c.args.text.now c.args.full c.if-full.false
    (rw c.in-Ok-Partial.field-0-is at c.in-Ok-Partial.ensures.partial)

pub returns-in-Err-clause-says : goal.returns-in-Err-clause-says
returns-in-Err-clause-says c = response_overflows c.args.text.now c.args.full _ c.if-full.false c.requires.head
    c.in-Err.ensures.no_room (ap length c.new-head.ensures.room)

pub returns-then-len-text-clause-says : goal.returns-then-len-text-clause-says
returns-then-len-text-clause-says c = response_short c.args.text.now c.args.full _ c.parse.new.self c.if-full.false
    (rw c.in-Ok-Complete.field-0-is at c.in-Ok-Complete.ensures.complete) c.if-len-text.true

pub returns-in_err-body_length-in-Some-clause-says : goal.returns-in_err-body_length-in-Some-clause-says
returns-in_err-body_length-in-Some-clause-says c =
    let p = err_from_is_err_and c.from_residual.result c.from_residual.ensures.1 in
    rw (p.1, p.2) (response_failed c.args.text.now c.args.full _ c.parse.new.self c.in-Some.status _
    (rw c.in-Ok-Complete.field-0-is at c.in-Ok-Complete.ensures.complete) c.if-len-text.false c.if-full.false
    c.in-Some.is c.in_err-body_length-in-Some.ensures.length)

pub returns-in_ok-body_length-in-Some-clause-says : goal.returns-in_ok-body_length-in-Some-clause-says
returns-in_ok-body_length-in-Some-clause-says c =
    response_said c.args.text.now c.args.full _ c.parse.new.self c.in-Some.status c.in_ok-body_length-in-Some.field-0
    (rw c.in-Ok-Complete.field-0-is at c.in-Ok-Complete.ensures.complete) c.if-len-text.false c.if-full.false
    c.in-Some.is c.in_ok-body_length-in-Some.ensures.length
