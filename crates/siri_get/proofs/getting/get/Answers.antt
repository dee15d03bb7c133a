use Rattle.std.proofs.Common.{Some, None, refl, subst}
use Rattle.siri_base.specs.declared.status.Status.TheVariants as status
use Rattle.siri_wire.specs.Documents.{message_of}
use Rattle.siri_get.specs.Exchanges.{Heard, ComesOfPlan}
use Rattle.siri_get.specs.Plans.{plan_of}
use Rattle.siri_get.proofs.Runs.{was_read, all_read}
use Rattle.siri_get.proofs.getting.get.Goals as goal

pub returns-in-Ok-Some-clause-run : goal.returns-in-Ok-Some-clause-run
returns-in-Ok-Some-clause-run g c =
    let told = subst (λ (heard : Heard). ComesOfPlan c.args.producer.now.host (plan_of (message_of c.in-Ok.document.items))
    (g.W.Wire.tells c.args.wire.now) (g.W.Wire.tells c.ask.new.wire) (Some heard)) c.in-Ok-Some.field-0-is c.in-Ok-Some.ensures.told in
    was_read c.args.producer.now.host (g.S.Source.left c.args.source.now) (g.S.Source.left c.read_document.new.source)
    (g.W.Wire.tells c.args.wire.now) (g.W.Wire.tells c.ask.new.wire) (g.K.Sink.held c.args.sink.now) (g.K.Sink.held c.write.new.sink)
    c.in-Ok.document.items (Some (Some c.in-Ok-Some.answer)) c.write.result c.in-Ok.ensures.document told
    c.write.ensures.text

pub returns-in-Ok-Some-clause-all : goal.returns-in-Ok-Some-clause-all
returns-in-Ok-Some-clause-all g c =
    let told = subst (λ (heard : Heard). ComesOfPlan c.args.producer.now.host (plan_of (message_of c.in-Ok.document.items))
    (g.W.Wire.tells c.args.wire.now) (g.W.Wire.tells c.ask.new.wire) (Some heard)) c.in-Ok-Some.field-0-is c.in-Ok-Some.ensures.told in
    all_read c.args.producer.now.host (g.S.Source.left c.args.source.now) (g.S.Source.left c.read_document.new.source)
    (g.W.Wire.tells c.args.wire.now) (g.W.Wire.tells c.ask.new.wire) (g.K.Sink.held c.args.sink.now) (g.K.Sink.held c.write.new.sink)
    c.in-Ok.document.items c.in-Ok-Some.answer c.write.result c.in-Ok.ensures.document told c.write.ensures.text

pub returns-in-Ok-None-clause-run : goal.returns-in-Ok-None-clause-run
returns-in-Ok-None-clause-run g c =
    let told = subst (λ (heard : Heard). ComesOfPlan c.args.producer.now.host (plan_of (message_of c.in-Ok.document.items))
    (g.W.Wire.tells c.args.wire.now) (g.W.Wire.tells c.ask.new.wire) (Some heard)) c.in-Ok-None.field-0-is c.in-Ok-None.ensures.told in
    was_read c.args.producer.now.host (g.S.Source.left c.args.source.now) (g.S.Source.left c.read_document.new.source)
    (g.W.Wire.tells c.args.wire.now) (g.W.Wire.tells c.ask.new.wire) (g.K.Sink.held c.args.sink.now) (g.K.Sink.held c.args.sink.now)
    c.in-Ok.document.items (Some None) status.WireFault c.in-Ok.ensures.document told (refl, refl)

pub returns-in-Err-clause-run : goal.returns-in-Err-clause-run
returns-in-Err-clause-run g c =
    was_read c.args.producer.now.host (g.S.Source.left c.args.source.now) (g.S.Source.left c.read_document.new.source)
    (g.W.Wire.tells c.args.wire.now) (g.W.Wire.tells c.ask.new.wire) (g.K.Sink.held c.args.sink.now) (g.K.Sink.held c.args.sink.now)
    c.in-Ok.document.items None status.OutOfMemory c.in-Ok.ensures.document c.in-Err.ensures.told (refl, refl)
