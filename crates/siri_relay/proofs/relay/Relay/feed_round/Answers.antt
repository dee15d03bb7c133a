use Rattle.std.proofs.Common.{◌∙◌, ap, subst, sym, true}
use Rattle.siri_records.specs.Keyed.{Items}
use Rattle.siri_relay.specs.Feeds.{feeds_of}
use Rattle.siri_relay.specs.Goes.{GoesSome}
use Rattle.siri_relay.specs.Relaying.{KnownRelay, view_of}
use Rattle.siri_relay.specs.Standing.{HoldsView}
use Rattle.siri_relay.proofs.Goings.{on_err}
use Rattle.siri_relay.proofs.Relays.{behind_from, fed_from}
use Rattle.siri_relay.proofs.relay.Relay.feed_round.Goals as goal

pub invariant_of-self : goal.invariant_of-self
invariant_of-self c =
    let inside = c.self.inside in
    behind_from inside.producer c.feed_round.new.producer inside.consumer inside.upstream inside.fed c.feed_round.new.fed _
    inside.is_level true c.self.invariant (ap (λ (r : KnownRelay). r.level) c.self.view_is ∙ c.requires.level)
    c.in_err-room.ensures.unfed c.in-Some.ensures c.in_err-room.ensures.err

pub returns-in_err-room-clause-behind : goal.returns-in_err-room-clause-behind
returns-in_err-room-clause-behind c =
    let new = c.feed_round.new.producer in
    let went = subst (λ (view : Items). GoesSome c.self.inside.producer new (feeds_of true c.self.inside.fed view))
    c.in-Some.ensures c.in_err-room.ensures.err in
    on_err c.from_residual.result _
    (subst (λ (r : KnownRelay). GoesSome r.producer new (feeds_of true r.fed (view_of r))) c.self.view_is went)

pub invariant_of-self-2 : goal.invariant_of-self-2
invariant_of-self-2 c =
    let inside = c.self.inside in
    let held = subst (λ (r : KnownRelay). HoldsView r.producer r.fed) (sym c.self.view_is) c.requires.held in
    fed_from inside.producer c.feed_round.new.producer inside.consumer inside.upstream inside.fed c.feed_round.new.fed _
    inside.is_level true c.in_ok-room.room c.self.invariant (ap (λ (r : KnownRelay). r.level) c.self.view_is ∙ c.requires.level)
    (λ level. held) c.in-Some.ensures c.in_ok-room.ensures.fed c.in_ok-room.ensures.room c.in_ok-room.ensures.ok
