use Rattle.std.proofs.Common.{false, ◌∙◌, sym, ap, subst}
use Rattle.siri_messages.specs.declared.message.Message.TheVariants as message
use Rattle.siri_producer.specs.Known.{Known, RefusedAt}
use Rattle.siri_producer.specs.Standing.{known_of}
use Rattle.siri_producer.proofs.Takes.{refused_whole, some_ignored}
use Rattle.siri_producer.proofs.producer.Producer.take_lent_delivery.Goals as goal

pub returns-then-has_round-clause-takes : goal.returns-then-has_round-clause-takes
returns-then-has_round-clause-takes c =
    let delivery = message.ServiceDelivery c.args.delivery.now in
    let ignored = sym c.has_round.ensures ∙ c.if-has_round.true in
    record {
      ok = c.ignore.ensures.stands delivery ignored;
      answer = c.ignore.ensures.answer delivery ignored;
      err = tt;
      name = c.ignore.ensures.name;
    }

pub invariant_of-self : goal.invariant_of-self
invariant_of-self c =
    let inside = c.self.inside in
    some_ignored inside.responder inside.table inside.is_settled c.self.invariant

-- none of the feed was taken
pub returns-in-Err-clause-takes : goal.returns-in-Err-clause-takes
returns-in-Err-clause-takes c =
    let inside = c.self.inside in
    let delivery = c.args.delivery.now in
    let none = sym c.has_round.ensures ∙ c.if-has_round.false in
    record {
      ok = tt;
      answer = tt;
      err = subst (λ (k : Known). RefusedAt k (known_of inside.responder inside.table false) (message.ServiceDelivery delivery))
          c.self.view_is (refused_whole inside.responder inside.table inside.is_settled c.self.invariant.numbered delivery none);
      name = ap (λ (k : Known). k.responder.name) c.self.view_is;
    }
