use Rattle.std.proofs.Common.{refl, sym, subst}
use Rattle.std.proofs.lemmas.Result.{IfOk-weaker}
use Rattle.siri_world.specs.Known.{Known, Knows}
use Rattle.siri_world.proofs.Found.{at_within}
use Rattle.siri_world.proofs.Requests.{subscribed_does}
use Rattle.siri_world.proofs.world.World.subscribe.Goals as goal

pub subscribe-requires : goal.subscribe-requires
subscribe-requires c = at_within _ _ _ _ c.in_ok-place.ensures.place

pub returns : goal.returns
returns c = IfOk-weaker c.asked.result _ _ (λ happened told w k.
    let old : Known = record {
      moment = c.self.inside.moment;
      starts = c.self.inside.starts;
      producer = c.self.inside.producer;
      consumers = c.self.inside.consumers;
      packets = c.self.inside.packets;
    } in
    subscribed_does old _ w c.args.name.now c.in_ok-place.place c.args.wanted.now c.args.beat c.place_or_new.new.self
    c.subscribe.new.self c.subscribe.result happened (subst (λ known. Knows known w) (sym c.self.view_is) k) refl
    c.in_ok-place.ensures.ok c.in_ok-place.ensures.place c.subscribe.ensures told) c.asked.ensures
