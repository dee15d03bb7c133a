use Rattle.std.proofs.Common.{◌∙◌, sym}
use Rattle.siri_relay.proofs.Relays.{none_asked, opened_from}
use Rattle.siri_relay.proofs.relay.Relay.open.Goals as goal

pub invariant_of-self-2 : goal.invariant_of-self-2
invariant_of-self-2 c =
    let inside = c.self.inside in
    let none = none_asked inside.upstream (sym c.is_some.ensures ∙ c.if-is_some.false) in
    opened_from inside.producer inside.consumer c.subscribe.new.self inside.upstream inside.fed inside.is_level c.args.wanted.now
    c.in_ok-copy.field-0 c.in_ok-identifier.identifier c.new-list.result c.push.new.self c.args.beat c.self.invariant none
    c.in_ok-push.ensures.ok c.new-list.ensures c.in_ok-copy.ensures c.in_ok-identifier.ensures c.in_ok-request.ensures.ok
