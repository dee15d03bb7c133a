use Rattle.siri_messages.specs.declared.message.Message.TheVariants as message
use Rattle.siri_model.specs.Direct.{response}
use Rattle.siri_model.specs.History.{current, now_of}
use Rattle.siri_wire.specs.Canonical.{canonical}
use Rattle.siri_ends.specs.Sinks.{WritesText}
use Rattle.siri_ends.proofs.Sends.{on_err}
use Rattle.siri_ends.proofs.Lends.{on_err_too, on_ok, same_stands, same_then, sent_body, stops_unwritten, unless_told}
use Rattle.siri_ends.proofs.lending.write_direct.Goals as goal

pub returns-clause-ok : goal.returns-clause-ok
returns-clause-ok g c = on_ok c.end_answer.result _ _
    (λ ends. λ h stands.
    ends (canonical
    (message.ServiceDelivery
    (response c.args.producer.now.responder.name (now_of h) (current h) c.args.request.now))) _ _
    (sent_body c.in_ok-measured.measured.length _ _
    (λ text. WritesText text c.send_direct-written.result (g.W.Wire.tells c.args.wire.now)
    (g.W.Wire.tells c.send_direct-written.new.wire)
    (g.W.Wire.faults c.args.wire.now) (g.W.Wire.faults c.send_direct-written.new.wire))
    (c.in_ok-measured.ensures.measured h stands).0 (c.in_ok-frame.ensures h stands)
    (c.send_direct-written.ensures.told h
    (same_stands c.args.producer.now c.measure_direct.new.producer h c.in_ok-measured.ensures.rest stands))))
    c.end_answer.ensures.ok

pub returns-clause-err : goal.returns-clause-err
returns-clause-err g c = on_err_too c.end_answer.result _ _
    (λ ends. λ h stands.
    ends (canonical
    (message.ServiceDelivery
    (response c.args.producer.now.responder.name (now_of h) (current h) c.args.request.now))) _ _
    (sent_body c.in_ok-measured.measured.length _ _
    (λ text. WritesText text c.send_direct-written.result (g.W.Wire.tells c.args.wire.now)
    (g.W.Wire.tells c.send_direct-written.new.wire)
    (g.W.Wire.faults c.args.wire.now) (g.W.Wire.faults c.send_direct-written.new.wire))
    (c.in_ok-measured.ensures.measured h stands).0 (c.in_ok-frame.ensures h stands)
    (c.send_direct-written.ensures.told h
    (same_stands c.args.producer.now c.measure_direct.new.producer h c.in_ok-measured.ensures.rest stands))))
    c.end_answer.ensures.err

pub returns-in_err-frame-clause-err : goal.returns-in_err-frame-clause-err
returns-in_err-frame-clause-err g c = on_err c.from_residual.result _
    (λ h stands. stops_unwritten _ (g.W.Wire.tells c.args.wire.now))

pub returns-in_err-measured-clause-err : goal.returns-in_err-measured-clause-err
returns-in_err-measured-clause-err g c =
    on_err c.from_residual-in_err-measured.result _ (λ h stands. stops_unwritten _ (g.W.Wire.tells c.args.wire.now))

pub returns-clause-rest : goal.returns-clause-rest
returns-clause-rest g c = on_ok c.end_answer.result _ _
    (λ same. same_then c.args.producer.now c.measure_direct.new.producer c.send_direct-written.new.producer
    c.in_ok-measured.ensures.rest same)
    (unless_told c.send_direct-written.result c.end_answer.result _ c.end_answer.ensures.memory
    c.send_direct-written.ensures.rest)
