use Rattle.std.proofs.Common.{◌≡◌, ◌-◌, suc, ◌∙◌, [], arith, rules}
use Rattle.siri_ends.proofs.Sends.{comes_first, comes_full, comes_last, comes_next, comes_short, none_left, on_err, whole_stop}
use Rattle.siri_ends.proofs.sending.send_all.Goals as goal

pub loop-left-init : goal.loop-left-init
loop-left-init g c =
    let same : c.from-queue.result.items ≡ c.args.list = search rules in
    comes_first g.T.Taker.identity g.T.Taker.stands g.T.Taker.holds (g.T.Taker.posts c.args.target.now) g.T.Taker.manner _ _ _ same

pub returns-in_default-clause-ok : goal.returns-in_default-clause-ok
returns-in_default-clause-ok g c =
    let none : c.loop-left.queue.items
    ≡ [] = none_left c.loop-left.queue.items (c.in_default.ensures.items ∙ c.in_default.ensures.rest) in
    let one : c.loop-left.left ≡ suc (c.loop-left.left - 1) = omega (arith, c.loop-left-test.true) in
    comes_last g.T.Taker.identity g.T.Taker.stands g.T.Taker.holds (g.T.Taker.posts c.args.target.now) g.T.Taker.manner c.args.list c.loop-left.queue.items _ _ c.loop-left.left (c.loop-left.left - 1)
    c.loop-left.invariant none one

pub loop-left-preserved : goal.loop-left-preserved
loop-left-preserved g c =
    let one : c.loop-left.left ≡ suc (c.loop-left.left - 1) = omega (arith, c.loop-left-test.true) in
    comes_next g.T.Taker.identity g.T.Taker.stands g.T.Taker.holds (g.T.Taker.posts c.args.target.now) g.T.Taker.manner c.args.list
    c.loop-left.queue.items c.append_all.new.queue.items _ _ _ c.loop-left.left
    (c.loop-left.left - 1) c.in-Some.message c.pop_front.new.self.items c.in_ok-more.more c.loop-left.invariant
    c.in-Some.ensures.items one c.in_ok-more.ensures.ok c.in_ok-append_all.ensures

pub returns-clause-ok : goal.returns-clause-ok
returns-clause-ok g c =
    let none : c.loop-left.left ≡ 0 = omega (arith, c.loop-left-test.false) in
    rw (c.count_unsent.ensures, c.len.ensures, c.loop-left.queue.ok.0)
    (comes_full g.T.Taker.identity g.T.Taker.stands g.T.Taker.holds (g.T.Taker.posts c.args.target.now) g.T.Taker.manner c.args.list
    c.loop-left.queue.items _ _ c.loop-left.left c.loop-left.invariant none)

pub returns-in_err-more-clause-err : goal.returns-in_err-more-clause-err
returns-in_err-more-clause-err g c =
    let one : c.loop-left.left ≡ suc (c.loop-left.left - 1) = omega (arith, c.loop-left-test.true) in
    on_err c.from_residual.result _
    (comes_short g.T.Taker.identity g.T.Taker.stands g.T.Taker.holds (g.T.Taker.posts c.args.target.now) g.T.Taker.manner
    (g.met.T.Taker.none_posted c.args.target.now) c.args.list c.loop-left.queue.items _ _ c.loop-left.left
    (c.loop-left.left - 1) c.in-Some.message c.pop_front.new.self.items _ c.loop-left.invariant
    c.in-Some.ensures.items one c.in_err-more.ensures.err)

pub returns-in_err-append_all-clause-err : goal.returns-in_err-append_all-clause-err
returns-in_err-append_all-clause-err g c =
    let one : c.loop-left.left ≡ suc (c.loop-left.left - 1) = omega (arith, c.loop-left-test.true) in
    on_err c.from_residual-in_err-append_all.result _
    (comes_short g.T.Taker.identity g.T.Taker.stands g.T.Taker.holds (g.T.Taker.posts c.args.target.now) g.T.Taker.manner
    (g.met.T.Taker.none_posted c.args.target.now) c.args.list c.loop-left.queue.items _ _ c.loop-left.left
    (c.loop-left.left - 1) c.in-Some.message c.pop_front.new.self.items _ c.loop-left.invariant
    c.in-Some.ensures.items one (whole_stop g.T.Taker.identity g.T.Taker.stands g.T.Taker.holds (g.T.Taker.posts c.args.target.now)
    g.T.Taker.manner c.in-Some.message c.in_ok-more.more _ _ c.in_ok-more.ensures.ok))
