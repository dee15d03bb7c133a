use Rattle.std.proofs.Common.{◌∙◌}
use Rattle.siri_world_model.specs.Consumers.{consumer_of}
use Rattle.siri_world.proofs.Named.{found_named}
use Rattle.siri_world.proofs.consumers.Consumers.get.Goals as goal

pub returns : goal.returns
returns c =
    let map = c.self.inside.map in
    c.get.ensures.value ∙ found_named c.text.result.now map.entries c.self.invariant ∙ (λ i. consumer_of (c.text.ensures.value i) (c.self.view_is i))
