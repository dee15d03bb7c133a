use Rattle.std.proofs.Common.{◌+◌, ◌≤◌, ◌∙◌, filter, length, refl, true, sym, ap, subst, arith}
use Rattle.std.proofs.lemmas.Option.{IfSome_then}
use Rattle.siri_store.specs.Marked.{SameFrom, is_since}
use Rattle.siri_model.specs.Followed.{look_bounds}
use Rattle.siri_model.specs.History.{Settle}
use Rattle.siri_responder.specs.Known as responder
use Rattle.siri_subscriptions.specs.Looked.{followed_rows}
use Rattle.siri_producer.specs.Forgets.{Forgets}
use Rattle.siri_producer.specs.Known.{Known, GoesOn, SendsFor}
use Rattle.siri_producer.specs.Oldest.{oldest_look}
use Rattle.siri_producer.specs.Standing.{known_of}
use Rattle.siri_producer.proofs.Follows.{all_follow}
use Rattle.siri_producer.proofs.Left.{forgets_left, goes_left, is_left, leaving, reads_left}
use Rattle.siri_producer.proofs.Settles.{bound_seen, forgot, goes_settled, is_counted, is_settled, is_turned, sends_settled}
use Rattle.siri_producer.proofs.producer.Producer.settle.Goals as goal

pub settle-requires : goal.settle-requires
settle-requires c =
    let inside = c.self.inside in
    record {
      follows = all_follow inside.responder inside.table inside.is_settled c.self.invariant;
      numbers = omega arith;
    }

pub leave-requires : goal.leave-requires
leave-requires c = record {
  number = IfSome_then c.in_ok-last.last c.in_ok-last.ensures.last (λ last is. omega (
    arith,
    is.number,
    c.turn.ensures.number,
    ap (λ (k : responder.Known). k.marks.number) c.settle.ensures.rest,
  ));
  room = IfSome_then c.in_ok-last.last c.in_ok-last.ensures.last (λ last is. omega (
    arith,
    is.room,
    ap (λ (k : responder.Known). length k.held) c.turn.ensures.rest,
    ap (λ (k : responder.Known). length k.held) c.settle.ensures.rest,
  ));
}

pub returns-in_err-outs-clause-bound : goal.returns-in_err-outs-clause-bound
returns-in_err-outs-clause-bound c =
    let inside = c.self.inside in
    bound_seen inside.responder inside.table inside.is_settled c.settle.new.responder.reads c.args.self.now c.self.view_is c.settle.ensures.bound

pub invariant_of-self : goal.invariant_of-self
invariant_of-self c =
    let inside = c.self.inside in
    is_counted inside.responder c.settle.new.responder inside.table c.settle.new.table inside.is_settled c.settle.ensures.rest
    c.in_err-outs.ensures.err c.self.invariant

pub invariant_of-self-2 : goal.invariant_of-self-2
invariant_of-self-2 c =
    let inside = c.self.inside in
    let most = c.number-number.result + 1 in
    let rows = c.settle.new.table in
    let oldest = oldest_look most rows in
    let log = c.turn.ensures.log ∙ ap (λ n. filter (is_since n) c.settle.new.responder.marks.log) c.oldest_look.ensures in
    let same = subst (λ n. SameFrom n c.settle.new.responder.marks c.turn.new.self.marks) c.oldest_look.ensures c.turn.ensures.same in
    let turned = is_turned inside.responder c.settle.new.responder c.turn.new.self oldest c.settle.ensures.rest c.turn.ensures.rest
    c.turn.ensures.number log same c.turn.ensures.fresh in
    is_left inside.responder.marks oldest c.turn.new.self c.leave.new.responder rows c.leave.new.table c.in_ok-last.last
    (leaving inside.responder c.turn.new.self c.leave.new.responder rows c.leave.new.table most c.in_ok-last.last turned
    (ap (λ n. n + 1) c.number-number.ensures) c.in_ok-last.ensures.some c.in_ok-last.ensures.last c.leave.ensures)
    (is_settled inside.responder c.turn.new.self inside.table rows inside.is_settled most turned
    c.in_ok-outs.ensures.table c.self.invariant c.in_ok-outs.ensures.levels)

pub returns-clause-ok : goal.returns-clause-ok
returns-clause-ok c =
    let inside = c.self.inside in
    let most = c.number-number.result + 1 in
    let rows = c.settle.new.table in
    let oldest = oldest_look most rows in
    let log = c.turn.ensures.log ∙ ap (λ n. filter (is_since n) c.settle.new.responder.marks.log) c.oldest_look.ensures in
    let same = subst (λ n. SameFrom n c.settle.new.responder.marks c.turn.new.self.marks) c.oldest_look.ensures c.turn.ensures.same in
    let turned = is_turned inside.responder c.settle.new.responder c.turn.new.self oldest c.settle.ensures.rest c.turn.ensures.rest
    c.turn.ensures.number log same c.turn.ensures.fresh in
    goes_left inside.responder.marks oldest c.turn.new.self c.leave.new.responder rows c.leave.new.table c.in_ok-last.last
    (leaving inside.responder c.turn.new.self c.leave.new.responder rows c.leave.new.table most c.in_ok-last.last turned
    (ap (λ n. n + 1) c.number-number.ensures) c.in_ok-last.ensures.some c.in_ok-last.ensures.last c.leave.ensures)
    true c.args.self.now Settle
    (subst (λ (k : Known). GoesOn k (known_of c.turn.new.self rows true) Settle) c.self.view_is
    (goes_settled inside.responder c.turn.new.self inside.table rows inside.is_settled most turned c.in_ok-outs.ensures.table))

pub returns-clause-sends : goal.returns-clause-sends
returns-clause-sends c =
    let inside = c.self.inside in
    subst (λ (k : Known). SendsFor k c.in_ok-outs.outs) c.self.view_is
    (sends_settled inside.responder inside.table inside.is_settled c.in_ok-outs.outs c.in_ok-outs.ensures.sends)

pub returns-clause-forgets : goal.returns-clause-forgets
returns-clause-forgets c =
    let inside = c.self.inside in
    let most = c.number-number.result + 1 in
    let rows = c.settle.new.table in
    let oldest = oldest_look most rows in
    let log = c.turn.ensures.log ∙ ap (λ n. filter (is_since n) c.settle.new.responder.marks.log) c.oldest_look.ensures in
    let same = subst (λ n. SameFrom n c.settle.new.responder.marks c.turn.new.self.marks) c.oldest_look.ensures c.turn.ensures.same in
    let turned = is_turned inside.responder c.settle.new.responder c.turn.new.self oldest c.settle.ensures.rest c.turn.ensures.rest
    c.turn.ensures.number log same c.turn.ensures.fresh in
    let next = ap (λ n. n + 1) c.number-number.ensures in
    subst (λ (k : Known). Forgets k (known_of c.leave.new.responder c.leave.new.table true)) c.self.view_is
    (forgets_left inside.responder.marks oldest c.turn.new.self c.leave.new.responder rows c.leave.new.table
    (known_of inside.responder inside.table inside.is_settled) refl
    (forgot inside.responder c.turn.new.self inside.table rows inside.is_settled most turned c.in_ok-outs.ensures.table next)
    c.in_ok-last.last
    (leaving inside.responder c.turn.new.self c.leave.new.responder rows c.leave.new.table most c.in_ok-last.last turned
    next c.in_ok-last.ensures.some c.in_ok-last.ensures.last c.leave.ensures))

pub returns-clause-bound : goal.returns-clause-bound
returns-clause-bound c =
    let inside = c.self.inside in
    let known = inside.responder in
    let most = c.number-number.result + 1 in
    let rows = c.settle.new.table in
    let oldest = oldest_look most rows in
    let log = c.turn.ensures.log ∙ ap (λ n. filter (is_since n) c.settle.new.responder.marks.log) c.oldest_look.ensures in
    let same = subst (λ n. SameFrom n c.settle.new.responder.marks c.turn.new.self.marks) c.oldest_look.ensures c.turn.ensures.same in
    let turned = is_turned known c.settle.new.responder c.turn.new.self oldest c.settle.ensures.rest c.turn.ensures.rest
    c.turn.ensures.number log same c.turn.ensures.fresh in
    let reads = reads_left known.marks oldest c.turn.new.self c.leave.new.responder rows c.leave.new.table c.in_ok-last.last
    (leaving known c.turn.new.self c.leave.new.responder rows c.leave.new.table most c.in_ok-last.last turned
    (ap (λ n. n + 1) c.number-number.ensures) c.in_ok-last.ensures.some c.in_ok-last.ensures.last c.leave.ensures)
    ∙ ap (λ (k : responder.Known). k.reads) c.turn.ensures.rest in
    bound_seen known inside.table inside.is_settled c.leave.new.responder.reads c.args.self.now c.self.view_is
    (subst (λ n. n ≤ known.reads + look_bounds known.moment known.held (followed_rows known.marks inside.table))
    (sym reads) c.settle.ensures.bound)
