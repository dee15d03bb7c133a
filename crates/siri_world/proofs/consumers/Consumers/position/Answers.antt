use Rattle.std.proofs.Common.{◌∙◌}
use Rattle.std.specs.Prelude.{position}
use Rattle.siri_world_model.specs.Consumers.{is_named}
use Rattle.siri_world.proofs.Named.{placed_named}
use Rattle.siri_world.proofs.consumers.Consumers.position.Goals as goal

pub returns : goal.returns
returns c = c.get_index_of.ensures.index ∙ placed_named c.text.result.now c.self.inside.map.entries c.self.invariant
    ∙ (λ i. position (is_named (c.text.ensures.value i)) (c.self.view_is i))
