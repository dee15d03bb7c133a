use Rattle.std.proofs.Common.{◌≡◌, Some, ap, rules, length}
use Rattle.siri_http.proofs.Saying.{request_partial, request_overflows, request_short, request_said, method_fits, target_fits}
use Rattle.siri_http.proofs.request.head_of_request.Goals as goal

pub returns-in-Ok-Partial-clause-says : goal.returns-in-Ok-Partial-clause-says
returns-in-Ok-Partial-clause-says c = request_partial c.args.text.now c.args.full c.if-full.false
    (rw c.in-Ok-Partial.field-0-is at c.in-Ok-Partial.ensures.partial)

pub returns-in-Err-clause-says : goal.returns-in-Err-clause-says
returns-in-Err-clause-says c = request_overflows c.args.text.now c.args.full _ c.if-full.false c.requires.head
    c.in-Err.ensures.no_room (ap length c.new-head.ensures.room)

pub returns-then-len-text-clause-says : goal.returns-then-len-text-clause-says
returns-then-len-text-clause-says c = request_short c.args.text.now c.args.full _ c.parse.new.self c.if-full.false
    (rw c.in-Ok-Complete.field-0-is at c.in-Ok-Complete.ensures.complete) c.if-len-text.true

pub said-requires-clause-method : goal.said-requires-clause-method
said-requires-clause-method c =
    let m : c.parse.new.self.method ≡ Some c.in-Some-Some.method = search rules in
    method_fits c.args.text.now _ c.parse.new.self c.in-Some-Some.method
    (rw c.in-Ok-Complete.field-0-is at c.in-Ok-Complete.ensures.complete) m c.requires.bound

pub said-requires-clause-target : goal.said-requires-clause-target
said-requires-clause-target c =
    let t : c.parse.new.self.path ≡ Some c.in-Some-Some.target = search rules in
    target_fits c.args.text.now _ c.parse.new.self c.in-Some-Some.target
    (rw c.in-Ok-Complete.field-0-is at c.in-Ok-Complete.ensures.complete) t c.requires.bound

pub returns-in-Some-Some-clause-says : goal.returns-in-Some-Some-clause-says
returns-in-Some-Some-clause-says c =
    let m : c.parse.new.self.method ≡ Some c.in-Some-Some.method = search rules in
    let t : c.parse.new.self.path ≡ Some c.in-Some-Some.target = search rules in
    request_said c.args.text.now c.args.full _ c.parse.new.self c.in-Some-Some.method c.in-Some-Some.target
    c.said.result (rw c.in-Ok-Complete.field-0-is at c.in-Ok-Complete.ensures.complete) c.if-len-text.false
    c.if-full.false m t c.said.ensures.parts
