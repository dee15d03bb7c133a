use Rattle.siri_relay.proofs.Relays.{settled_relay}
use Rattle.siri_relay.proofs.relay.Relay.settle.Goals as goal

pub invariant_of-self : goal.invariant_of-self
invariant_of-self c =
    let inside = c.self.inside in
    settled_relay inside.producer c.settle.new.self inside.consumer inside.upstream inside.fed inside.is_level c.settle.result
    c.self.invariant c.settle.ensures.ok c.settle.ensures.err c.settle.ensures.name
