use Rattle.std.proofs.Common.{[], max, refl, sym, subst, ◌∙◌}
use Rattle.std.proofs.lemmas.Result.{IfOk-weaker}
use Rattle.siri_model.specs.History.{Clock}
use Rattle.siri_world_model.specs.Consumers.{all_clocked}
use Rattle.siri_world_model.specs.World.{World}
use Rattle.siri_world.specs.Known.{Known, Knows}
use Rattle.siri_world.proofs.Producers.{passed, settled_does}
use Rattle.siri_world.proofs.world.World.clock.Goals as goal

pub returns : goal.returns
returns c = IfOk-weaker c.clock.result _ _ (λ happened did w k.
    let old : Known = record {
      moment = c.self.inside.moment;
      starts = c.self.inside.starts;
      producer = c.self.inside.producer;
      consumers = c.self.inside.consumers;
      packets = c.self.inside.packets;
    } in
    let later : World = record w { moment = max w.moment c.args.now; consumers = all_clocked c.args.now w.consumers } in
    settled_does old _ later (Clock c.args.now) (λ h. []) (λ h. []) c.in-Some.producer c.clock.new.producer happened
    (subst (λ known. Knows known later) (sym (c.self.view_is ∙ c.pass.ensures))
    (passed c.args.self.now w c.args.now k)) c.in-Some.is did refl) c.clock.ensures
