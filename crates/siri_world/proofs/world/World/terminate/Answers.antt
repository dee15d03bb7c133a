use Rattle.std.proofs.Common.{refl, sym, subst}
use Rattle.std.proofs.lemmas.Result.{IfOk-weaker}
use Rattle.siri_world.specs.Known.{Known, Knows}
use Rattle.siri_world.proofs.Found.{at_within}
use Rattle.siri_world.proofs.Requests.{ends_does}
use Rattle.siri_world.proofs.world.World.terminate.Goals as goal

pub terminate-requires : goal.terminate-requires
terminate-requires c = at_within _ _ _ _ c.in-Some.ensures.1

pub returns : goal.returns
returns c = IfOk-weaker c.ended.result _ _ (λ happened told w k.
    let old : Known = record {
      moment = c.self.inside.moment;
      starts = c.self.inside.starts;
      producer = c.self.inside.producer;
      consumers = c.self.inside.consumers;
      packets = c.self.inside.packets;
    } in
    ends_does old _ w c.args.name.now c.args.identifier.now c.in-Some.place c.in-Some.ensures.0 c.terminate.new.self
    c.terminate.result (subst (λ known. Knows known w) (sym c.self.view_is) k) refl c.in-Some.ensures.1
    c.terminate.ensures happened told) c.ended.ensures
