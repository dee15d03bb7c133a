use Rattle.std.proofs.Common.{refl, sym, ap, ◌∙◌, subst, length, ◌≤◌}
use Rattle.siri_responder.specs.Known as responder
use Rattle.siri_producer.specs.Known.{Known}
use Rattle.siri_producer.proofs.Lent.{shown_for}
use Rattle.siri_producer.proofs.producer.Producer.lend.Goals as goal

pub returns : goal.returns
returns c = (
  (refl, λ w. ap (λ (k : Known). record k { responder = record k.responder { reads = w } }) c.self.view_is),
  record {
    keeps = tt;
    counter = c.lend.ensures.counter ∙ ap (λ (k : Known). k.responder.reads) c.self.view_is;
    lends = λ h s.
        c.lend.ensures.lends
        ∙ shown_for c.self.inside.responder h c.args.topic.now
        (subst (λ (k : Known). responder.StandsFor k.responder h) (sym c.self.view_is) s.responder);
    within = (
      c.lend.ensures.within.0,
      subst (λ (k : Known). c.lend.result.end ≤ length k.responder.held) c.self.view_is c.lend.ensures.within.1,
    );
  },
)
