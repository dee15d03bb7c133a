use Rattle.std.proofs.Common.{[], ◌∷◌, refl, sym, subst}
use Rattle.std.proofs.lemmas.Result.{IfOk-weaker}
use Rattle.siri_model.specs.History.{Feed, entries_of}
use Rattle.siri_world.specs.Known.{Known, Knows}
use Rattle.siri_world.specs.Serving.{fed_line}
use Rattle.siri_world.proofs.Producers.{settled_does}
use Rattle.siri_world.proofs.world.World.feed.Goals as goal

pub returns : goal.returns
returns c = IfOk-weaker c.feed.result _ _ (λ happened did w k.
    let old : Known = record {
      moment = c.self.inside.moment;
      starts = c.self.inside.starts;
      producer = c.self.inside.producer;
      consumers = c.self.inside.consumers;
      packets = c.self.inside.packets;
    } in
    settled_does old _ w (Feed (entries_of c.args.delivery)) (λ h. fed_line h c.args.delivery ∷ [])
    (λ h. []) c.in-Some.producer c.feed.new.producer happened
    (subst (λ known. Knows known w) (sym c.self.view_is) k) c.in-Some.is did refl) c.feed.ensures
