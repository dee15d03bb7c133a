use Rattle.std.proofs.Common.{ap, ◌∙◌}
use Rattle.siri_messages.specs.declared.message.Message.TheVariants as message
use Rattle.siri_subs.specs.rounds.Wanted.{part_sent}
use Rattle.siri_subscriptions.specs.replies.Parts.{part_delivery}
use Rattle.siri_wire.specs.Canonical.{canonical}
use Rattle.siri_ends.specs.Pieces.{part_text}
use Rattle.siri_ends.specs.Sinks.{WritesText}
use Rattle.siri_ends.proofs.Sends.{on_err}
use Rattle.siri_ends.proofs.Lends.{on_err_too, on_ok, sent_body, stops_unwritten}
use Rattle.siri_ends.proofs.lending.write_lent_part.Goals as goal

pub returns-clause-ok : goal.returns-clause-ok
returns-clause-ok g c =
    let lent = c.args.lent.now in
    on_ok c.end_answer.result _ _
    (λ ends.
    ends (canonical
    (message.ServiceDelivery
    (part_delivery c.args.producer.now lent.wanted.now lent.number c.args.start (part_sent lent.part)))) _ _
    (sent_body c.in_ok-measured.measured.length _ _
    (λ text. WritesText text c.send_part-written.result (g.W.Wire.tells c.args.wire.now)
    (g.W.Wire.tells c.send_part-written.new.wire)
    (g.W.Wire.faults c.args.wire.now) (g.W.Wire.faults c.send_part-written.new.wire))
    c.in_ok-measured.ensures.0
    (ap (λ head. part_text head lent.part.changes.now c.in_ok-frame.frame) c.in_ok-head.ensures ∙ c.in_ok-frame.ensures)
    c.send_part-written.ensures.told))
    c.end_answer.ensures.ok

pub returns-clause-err : goal.returns-clause-err
returns-clause-err g c =
    let lent = c.args.lent.now in
    on_err_too c.end_answer.result _ _
    (λ ends.
    ends (canonical
    (message.ServiceDelivery
    (part_delivery c.args.producer.now lent.wanted.now lent.number c.args.start (part_sent lent.part)))) _ _
    (sent_body c.in_ok-measured.measured.length _ _
    (λ text. WritesText text c.send_part-written.result (g.W.Wire.tells c.args.wire.now)
    (g.W.Wire.tells c.send_part-written.new.wire)
    (g.W.Wire.faults c.args.wire.now) (g.W.Wire.faults c.send_part-written.new.wire))
    c.in_ok-measured.ensures.0
    (ap (λ head. part_text head lent.part.changes.now c.in_ok-frame.frame) c.in_ok-head.ensures ∙ c.in_ok-frame.ensures)
    c.send_part-written.ensures.told))
    c.end_answer.ensures.err

pub returns-in_err-frame-clause-err : goal.returns-in_err-frame-clause-err
returns-in_err-frame-clause-err g c = on_err c.from_residual.result _
    (stops_unwritten _ (g.W.Wire.tells c.args.wire.now))

pub returns-in_err-head-clause-err : goal.returns-in_err-head-clause-err
returns-in_err-head-clause-err g c = on_err c.from_residual-in_err-head.result _
    (stops_unwritten _ (g.W.Wire.tells c.args.wire.now))

pub returns-in_err-measured-clause-err : goal.returns-in_err-measured-clause-err
returns-in_err-measured-clause-err g c = on_err c.from_residual-in_err-measured.result _
    (stops_unwritten _ (g.W.Wire.tells c.args.wire.now))
