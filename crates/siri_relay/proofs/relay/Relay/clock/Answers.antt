use Rattle.siri_relay.proofs.Relays.{clocked_from}
use Rattle.siri_relay.proofs.relay.Relay.clock.Goals as goal

pub invariant_of-self : goal.invariant_of-self
invariant_of-self c =
    let inside = c.self.inside in
    clocked_from inside.producer c.clock.new.self inside.consumer c.clock-2.new.self inside.upstream inside.fed inside.is_level c.args.now
    c.self.invariant c.clock.ensures.stands c.clock.ensures.name c.clock-2.ensures
