use Rattle.std.proofs.Common.{refl, sym, subst, ◌∙◌}
use Rattle.std.proofs.lemmas.Result.{IfOk-weaker}
use Rattle.siri_world.specs.Known.{Known, Knows}
use Rattle.siri_world.proofs.Producers.{started_does}
use Rattle.siri_world.proofs.world.World.start.Goals as goal

pub returns : goal.returns
returns c = IfOk-weaker c.told.result _ _ (λ happened told w k.
    let old : Known = record {
      moment = c.self.inside.moment;
      starts = c.self.inside.starts;
      producer = c.self.inside.producer;
      consumers = c.self.inside.consumers;
      packets = c.self.inside.packets;
    } in
    started_does old c.pass.new.self w c.in_ok-new.field-0 _ c.args.now happened
    (subst (λ known. Knows known w) (sym c.self.view_is) k) refl c.in_ok-new.ensures.stands
    (c.in_ok-new.ensures.name ∙ c.in_ok-name.ensures) c.pass.ensures told.0 told.1) c.told.ensures
