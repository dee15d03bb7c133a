use Rattle.siri_relay.proofs.Relays.{taken_relay}
use Rattle.siri_relay.proofs.relay.Relay.take_down.Goals as goal

pub invariant_of-self : goal.invariant_of-self
invariant_of-self c =
    let inside = c.self.inside in
    taken_relay inside.producer c.take_owned.new.self inside.consumer inside.upstream inside.fed inside.is_level c.args.message
    c.take_owned.result c.requires c.self.invariant c.take_owned.ensures.ok c.take_owned.ensures.err c.take_owned.ensures.name
