use Rattle.std.proofs.Common.{ap, subst, ◌≤◌, length, ◌∙◌}
use Rattle.siri_world_model.specs.Consumers.{consumer_of}
use Rattle.siri_world.specs.Known.{Known}
use Rattle.siri_world.proofs.Listed.{full_is}
use Rattle.siri_world.proofs.world.World.is_full.Goals as goal

pub returns-then-len-ge-MOST_CONSUMERS : goal.returns-then-len-ge-MOST_CONSUMERS
returns-then-len-ge-MOST_CONSUMERS c =
    let same = ap (λ (k : Known). k.consumers) c.self.view_is in
    let full = subst (λ n. 16 ≤ n) (c.len.ensures ∙ ap length same) c.if-len-ge-MOST_CONSUMERS.true in
    full_is (λ consumer. consumer.now) c.args.consumer.now c.args.self.now.consumers c.get.result c.is_none.result full
    (c.get.ensures ∙ ap (consumer_of c.args.consumer.now) same) c.is_none.ensures
