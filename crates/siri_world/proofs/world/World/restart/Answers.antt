use Rattle.std.proofs.Common.{refl, sym, subst}
use Rattle.std.proofs.lemmas.Result.{IfOk-weaker}
use Rattle.siri_world.specs.Known.{Known, Knows}
use Rattle.siri_world.proofs.Found.{at_within}
use Rattle.siri_world.proofs.Requests.{restarts_does}
use Rattle.siri_world.proofs.world.World.restart.Goals as goal

pub restart-requires : goal.restart-requires
restart-requires c = at_within _ _ _ _ c.in-Some.ensures.1

pub returns : goal.returns
returns c = IfOk-weaker c.restarted.result _ _ (λ happened told w k.
    let old : Known = record {
      moment = c.self.inside.moment;
      starts = c.self.inside.starts;
      producer = c.self.inside.producer;
      consumers = c.self.inside.consumers;
      packets = c.self.inside.packets;
    } in
    restarts_does old _ w c.args.name.now c.in-Some.place c.in-Some.ensures.0 c.restart.new.self
    (subst (λ known. Knows known w) (sym c.self.view_is) k) refl c.in-Some.ensures.1 c.restart.result c.restart.ensures
    happened told) c.restarted.ensures
