use Rattle.std.proofs.Common.{◌≡◌, ◌-◌, Err, Ok, rules, length, take, drop, subst}
use Rattle.std.proofs.lemmas.Result.{err_from_is_err_and}
use Rattle.siri_http.specs.Connections.{OnConnection}
use Rattle.siri_http.specs.Messages.{IsRequest}
use Rattle.siri_http.specs.inner.Reading.{SaysSo, LacksBody, HasBody}
use Rattle.siri_http.proofs.Fronts.{no_head, head_refused, body_lacks, body_whole, text_found}
use Rattle.siri_http.proofs.request.read_request.Goals as goal

pub returns-in_err-front-clause-told : goal.returns-in_err-front-clause-told
returns-in_err-front-clause-told g c =
    let p = err_from_is_err_and c.from_residual.result c.from_residual.ensures.1 in
    rw (p.1, p.2) (no_head IsRequest _ _ _ c.in_err-front.ensures.end)

pub head_of_request-requires-clause-head : goal.head_of_request-requires-clause-head
head_of_request-requires-clause-head g c =
    let cut : c.split_at.result.0.now ≡ take c.in_ok-front.front.head.len c.in_ok-front.front.bytes.items = search rules in
    text_found c.in_ok-front.front.bytes.items c.split_at.result.0.now c.in_ok-front.front.head c.in_ok-front.ensures.head cut

pub returns-in_err-asked-clause-told : goal.returns-in_err-asked-clause-told
returns-in_err-asked-clause-told g c =
    let front = c.in_ok-front.front in
    let cut : c.split_at.result.0.now ≡ take front.head.len front.bytes.items = search rules in
    let p = err_from_is_err_and c.from_residual-in_err-asked.result c.from_residual-in_err-asked.ensures.1 in
    let says = subst (λ t. SaysSo IsRequest t front.head.full (Err c.in_err-asked.field-0.0)) cut c.in_err-asked.ensures.says in
    rw (p.1, p.2) (head_refused IsRequest front.bytes.items front.head c.in_ok-front.ensures.head
    c.in_err-asked.field-0.0 _ _ c.in_err-asked.ensures.known says c.in_ok-front.ensures.bytes)

pub returns-in_err-body-clause-told : goal.returns-in_err-body-clause-told
returns-in_err-body-clause-told g c =
    let front = c.in_ok-front.front in
    let asked = c.in_ok-asked.asked in
    let cut : c.split_at.result.0.now ≡ take front.head.len front.bytes.items = search rules in
    let came : c.split_at.result.1.now ≡ drop front.head.len front.bytes.items = search rules in
    let p = err_from_is_err_and c.from_residual-in_err-body.result c.from_residual-in_err-body.ensures.1 in
    let says = subst (λ t. SaysSo IsRequest t front.head.full (Ok ((asked.method, asked.target), asked.length))) cut c.in_ok-asked.ensures.says in
    let lacks = subst (λ l. OnConnection (LacksBody (asked.length - length l) c.in_err-body.field-0.0)
    (g.W.Wire.tells c.read_head.new.wire) (g.W.Wire.tells c.read_body.new.wire)) came c.in_err-body.ensures.end in
    rw (p.1, p.2) (body_lacks IsRequest front.bytes.items front.head c.in_ok-front.ensures.head
    (asked.method, asked.target) asked.length c.in_err-body.field-0.0 _ _ _ says c.in_ok-front.ensures.bytes lacks)

pub returns-clause-told : goal.returns-clause-told
returns-clause-told g c =
    let front = c.in_ok-front.front in
    let asked = c.in_ok-asked.asked in
    let cut : c.split_at.result.0.now ≡ take front.head.len front.bytes.items = search rules in
    let came : c.split_at.result.1.now ≡ drop front.head.len front.bytes.items = search rules in
    let says = subst (λ t. SaysSo IsRequest t front.head.full (Ok ((asked.method, asked.target), asked.length))) cut c.in_ok-asked.ensures.says in
    let body = subst (λ l. OnConnection (HasBody l asked.length c.in_ok-body.body.items)
    (g.W.Wire.tells c.read_head.new.wire) (g.W.Wire.tells c.read_body.new.wire)) came c.in_ok-body.ensures.body in
    rw c.of.ensures (body_whole IsRequest front.bytes.items front.head c.in_ok-front.ensures.head
    (asked.method, asked.target) asked.length c.in_ok-body.body.items _ _ _ says c.in_ok-front.ensures.bytes body)
