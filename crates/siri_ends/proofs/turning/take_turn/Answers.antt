use Rattle.std.proofs.Common.{inl, inr, refl}
use Rattle.siri_ends.proofs.Sends.{on_err}
use Rattle.siri_ends.proofs.Taking.{answer_stopped, asked_answered, asked_stopped, leaves_sent, leaves_stopped, leaves_unread, sends_first, turn_stopped, turn_taken}
use Rattle.siri_ends.proofs.turning.take_turn.Goals as goal

pub returns-clause-ok : goal.returns-clause-ok
returns-clause-ok g c =
    let answered = asked_answered g.T.Taker.identity g.T.Taker.stands g.T.Taker.manner g.T.Taker.is_reply c.in_ok-asked.asked c.in_ok-reply.list
    c.in_ok-reply.reply c.args.taker.now c.take.new.self c.write_reply.new.self _ _ _ _ _ _ c.in_ok-reply.ensures.turned
    c.in-Ok.ensures.keeps c.in-Ok.ensures.stands c.in-Ok.ensures.ok in
    turn_taken g.A.Asking.asks g.T.Taker.identity g.T.Taker.stands g.T.Taker.manner g.T.Taker.holds (g.T.Taker.posts c.args.target.now)
    c.in_ok-asked.asked c.in_ok-reply.list c.args.taker.now _ _ c.args.beside.now c.take.new.beside _ _ _ _ _
    c.in_ok-asked.ensures.told c.in_ok-asked.ensures.cause answered
    (λ s so h. c.in-Ok.ensures.holds c.take.new.beside _ (c.in_ok-reply.ensures.turned.stands_for s so) (c.in_ok-reply.ensures.holds s h))
    c.in_ok-send_all.ensures.ok

pub returns-in_err-send_all-clause-err : goal.returns-in_err-send_all-clause-err
returns-in_err-send_all-clause-err g c =
    let answered = asked_answered g.T.Taker.identity g.T.Taker.stands g.T.Taker.manner g.T.Taker.is_reply c.in_ok-asked.asked c.in_ok-reply.list
    c.in_ok-reply.reply c.args.taker.now c.take.new.self c.write_reply.new.self _ _ _ _ _ _ c.in_ok-reply.ensures.turned
    c.in-Ok.ensures.keeps c.in-Ok.ensures.stands c.in-Ok.ensures.ok in
    on_err c.from_residual-in_err-send_all.result _
    (turn_stopped g.A.Asking.asks g.T.Taker.identity g.T.Taker.stands g.T.Taker.manner (g.T.Taker.posts c.args.target.now)
    c.in_ok-asked.asked c.in_ok-reply.list c.args.taker.now _ _ _ _ _ _ _ c.in_ok-asked.ensures.told
    c.in_ok-asked.ensures.cause answered c.in_err-send_all.ensures.err)

pub returns-in-Err-clause-err : goal.returns-in-Err-clause-err
returns-in-Err-clause-err g c = λ s so.
    answer_stopped g.A.Asking.asks (g.T.Taker.posts c.args.target.now) (g.T.Taker.manner (g.T.Taker.identity c.args.taker.now))
    c.in_ok-asked.asked _ _ _ c.in_ok-asked.ensures.told
    (asked_stopped g.T.Taker.identity g.T.Taker.stands g.T.Taker.manner g.T.Taker.is_reply c.in_ok-asked.asked c.in_ok-reply.list
    c.in_ok-reply.reply c.args.taker.now c.take.new.self _ _ c.in_ok-reply.ensures.turned c.in-Err.ensures.err s so)

pub returns-in_err-reply-clause-err : goal.returns-in_err-reply-clause-err
returns-in_err-reply-clause-err g c =
    on_err c.from_residual-in_err-reply.result _ (λ s so.
    answer_stopped g.A.Asking.asks (g.T.Taker.posts c.args.target.now) (g.T.Taker.manner (g.T.Taker.identity c.args.taker.now))
    c.in_ok-asked.asked _ _ _ c.in_ok-asked.ensures.told (inl refl))

-- ---- what stands beside it

pub returns-in_err-asked-clause-leaves : goal.returns-in_err-asked-clause-leaves
returns-in_err-asked-clause-leaves g c =
    leaves_unread g.A.Asking.asks g.A.Asking.takes_memory _ _ _ _ _ _ _ _ refl c.in_err-asked.ensures.stopped

pub returns-in_err-reply-clause-leaves : goal.returns-in_err-reply-clause-leaves
returns-in_err-reply-clause-leaves g c =
    leaves_stopped g.A.Asking.asks g.T.Taker.identity g.T.Taker.stands g.T.Taker.manner (g.T.Taker.posts c.args.target.now)
    c.in_ok-asked.asked c.args.taker.now _ _ _ _ _ c.in_ok-asked.ensures.told c.take.ensures.may _ (inl refl) (λ s so. inl refl)

pub returns-in-Err-clause-leaves : goal.returns-in-Err-clause-leaves
returns-in-Err-clause-leaves g c =
    leaves_stopped g.A.Asking.asks g.T.Taker.identity g.T.Taker.stands g.T.Taker.manner (g.T.Taker.posts c.args.target.now)
    c.in_ok-asked.asked c.args.taker.now _ _ _ _ _ c.in_ok-asked.ensures.told c.take.ensures.may _
    (inr c.in_ok-reply.ensures.left)
    (asked_stopped g.T.Taker.identity g.T.Taker.stands g.T.Taker.manner g.T.Taker.is_reply c.in_ok-asked.asked c.in_ok-reply.list
    c.in_ok-reply.reply c.args.taker.now c.take.new.self _ _ c.in_ok-reply.ensures.turned c.in-Err.ensures.err)

pub returns-in_err-send_all-clause-leaves : goal.returns-in_err-send_all-clause-leaves
returns-in_err-send_all-clause-leaves g c =
    let answered = asked_answered g.T.Taker.identity g.T.Taker.stands g.T.Taker.manner g.T.Taker.is_reply c.in_ok-asked.asked c.in_ok-reply.list
    c.in_ok-reply.reply c.args.taker.now c.take.new.self c.write_reply.new.self _ _ _ _ _ _ c.in_ok-reply.ensures.turned
    c.in-Ok.ensures.keeps c.in-Ok.ensures.stands c.in-Ok.ensures.ok in
    leaves_sent g.A.Asking.asks g.T.Taker.identity g.T.Taker.stands g.T.Taker.manner (g.T.Taker.posts c.args.target.now)
    c.in_ok-asked.asked c.args.taker.now _ _ _ _ _ c.in_ok-asked.ensures.told c.take.ensures.may c.in_ok-reply.list _ _ _ _
    c.in_ok-reply.ensures.left answered c.in_err-send_all.ensures.err

pub returns-clause-leaves : goal.returns-clause-leaves
returns-clause-leaves g c =
    let answered = asked_answered g.T.Taker.identity g.T.Taker.stands g.T.Taker.manner g.T.Taker.is_reply c.in_ok-asked.asked c.in_ok-reply.list
    c.in_ok-reply.reply c.args.taker.now c.take.new.self c.write_reply.new.self _ _ _ _ _ _ c.in_ok-reply.ensures.turned
    c.in-Ok.ensures.keeps c.in-Ok.ensures.stands c.in-Ok.ensures.ok in
    leaves_sent g.A.Asking.asks g.T.Taker.identity g.T.Taker.stands g.T.Taker.manner (g.T.Taker.posts c.args.target.now)
    c.in_ok-asked.asked c.args.taker.now _ _ _ _ _ c.in_ok-asked.ensures.told c.take.ensures.may c.in_ok-reply.list _ _ _ _
    c.in_ok-reply.ensures.left answered
    (sends_first g.A.Asking.asks g.T.Taker.identity g.T.Taker.stands g.T.Taker.manner g.T.Taker.holds (g.T.Taker.posts c.args.target.now)
    c.in_ok-reply.list _ _ c.in_ok-send_all.ensures.ok)
