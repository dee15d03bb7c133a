use Rattle.std.proofs.Common.{◌≡◌, ◌∙◌, ap, subst, sym}
use Rattle.siri_view.specs.Consuming.{after_message, seen_of}
use Rattle.siri_relay.specs.Feeds.{has_room}
use Rattle.siri_relay.specs.Goes.{GoesBy, GoesSome}
use Rattle.siri_relay.specs.Relaying.{KnownRelay, view_of}
use Rattle.siri_relay.proofs.Goings.{on_err, some_none}
use Rattle.siri_relay.proofs.Named.{round_after}
use Rattle.siri_relay.proofs.Relays.{applied_from, heard_from, made, not_applied, view_from}
use Rattle.siri_relay.proofs.Steps.{heard_goes, heard_steps}
use Rattle.siri_relay.proofs.ViewKept.{AppliesNothing}
use Rattle.siri_relay.proofs.relay.Relay.take_named.Goals as goal

pub returns-in_err-seen-clause-behind : goal.returns-in_err-seen-clause-behind
returns-in_err-seen-clause-behind c =
    let steps = heard_steps c.args.self.now c.args.message in
    let here = c.self.inside.producer in
    on_err c.from_residual.result _ (subst (λ (r : KnownRelay). GoesSome r.producer here steps) c.self.view_is (some_none here steps))

pub feed_applied-requires-clause-named : goal.feed_applied-requires-clause-named
feed_applied-requires-clause-named c =
    let inside = c.self.inside in
    let fed = subst (λ (r : KnownRelay). r.fed ≡ view_of r) (sym c.self.view_is) c.requires.fed in
    round_after inside.upstream inside.consumer c.take_owned.new.self c.args.message inside.fed c.args.named.now.keys c.requires.named
    c.in_ok-seen.ensures.consumer fed c.self.invariant.view

pub invariant_of-self-in-Applied : goal.invariant_of-self-in-Applied
invariant_of-self-in-Applied c =
    let inside = c.self.inside in
    let fed = subst (λ (r : KnownRelay). r.fed ≡ view_of r) (sym c.self.view_is) c.requires.fed in
    applied_from inside.producer inside.consumer c.take_owned.new.self inside.upstream inside.fed inside.is_level c.args.message
    c.self.invariant fed c.in_ok-seen.ensures.consumer

pub invariant_of-self-in_default : goal.invariant_of-self-in_default
invariant_of-self-in_default c =
    let inside = c.self.inside in
    let none = subst (λ s. AppliesNothing s.outcome) c.in_ok-seen.ensures.seen (not_applied c.in_ok-seen.seen.outcome c.in_default.not-Applied) in
    heard_from inside.producer inside.consumer c.take_owned.new.self inside.upstream inside.fed inside.is_level c.args.message
    c.self.invariant none c.in_ok-seen.ensures.consumer

pub returns-in_default : goal.returns-in_default
returns-in_default c =
    let inside = c.self.inside in
    let message = c.args.message in
    let is = c.self.view_is in
    let none = subst (λ s. AppliesNothing s.outcome) c.in_ok-seen.ensures.seen (not_applied c.in_ok-seen.seen.outcome c.in_default.not-Applied) in
    let whole = made inside.producer inside.consumer inside.upstream inside.fed inside.is_level in
    let same = view_from inside.consumer c.take_owned.new.self inside.upstream message none c.in_ok-seen.ensures.consumer in
    record {
      seen = c.in_ok-seen.ensures.seen ∙ ap (λ (r : KnownRelay). seen_of r.consumer message) is;
      producer = subst (λ (r : KnownRelay). GoesBy r.producer inside.producer (heard_steps r message)) is (heard_goes whole message none);
      consumer = c.in_ok-seen.ensures.consumer ∙ ap (λ (r : KnownRelay). after_message r.consumer message) is;
      level = subst (λ (r : KnownRelay). r.level ≡ has_room (view_of r)) (sym is) c.requires.level ∙ ap has_room same;
      fed = subst (λ (r : KnownRelay). r.fed ≡ view_of r) (sym is) c.requires.fed ∙ same;
      behind = tt;
      same = tt;
      upstream = ap (λ (r : KnownRelay). r.upstream) is;
      reads = ap (λ (r : KnownRelay). r.producer.responder.reads) is;
    }
