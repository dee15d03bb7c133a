use Rattle.std.proofs.Common.{◌∙◌, ap, sym, subst, None, true}
use Rattle.siri_relay.specs.Standing.{IsRelay}
use Rattle.siri_relay.proofs.Relays.{made, new_relay}
use Rattle.siri_relay.proofs.relay.Relay.new.Goals as goal

pub invariant_of-result : goal.invariant_of-result
invariant_of-result c =
    let p = c.in_ok-producer.producer in
    let held = ap (λ k. k.held) c.clock.ensures ∙ ap (λ k. k.held) c.in_ok-consumer.ensures in
    subst (λ f. IsRelay (made p c.clock.new.self None f true)) (sym c.new-3.ensures)
    (new_relay p c.clock.new.self c.args.start c.args.now c.in_ok-producer.ensures.stands held)
