use Rattle.std.proofs.Common.{refl, ◌∙◌}
use Rattle.indexmap.specs.IndexMap.{values}
use Rattle.siri_view.specs.Consuming.{after_restart}
use Rattle.siri_world.proofs.Asked.{asks_restarted}
use Rattle.siri_world.proofs.Found.{is_there, unwritten, written}
use Rattle.siri_world.proofs.Named.{name_kept, named_set, value_there, values_set}
use Rattle.siri_world.proofs.consumers.Consumers.restart.Goals as goal

pub invariant_of-self : goal.invariant_of-self
invariant_of-self c =
    let before = c.index_mut-consumer.result.now in
    named_set c.self.inside.map.entries c.args.place before c.restart.new.self c.index_mut-consumer.ensures.value
    (name_kept c.restart.result before c.restart.new.self
    (after_restart before) refl c.restart.ensures.ok c.restart.ensures.refused)
    c.self.invariant

pub returns : goal.returns
returns c = λ name d here.
    let entries = c.self.inside.map.entries in
    let items = values c.self.inside.map in
    let now = c.args.self.now in
    let place = c.args.place in
    let before = c.index_mut-consumer.result.now in
    let value = value_there items place before c.index_mut-consumer.ensures.value in
    let facts = c.restart.ensures in
    let new = c.restart.new.self in
    asks_restarted d now before c.restart.result _ new
    (is_there name items now place d before c.self.view_is here value)
    facts.requests facts.ok facts.spent facts.not_others facts.refused
    (λ is. values_set entries place new
    ∙ written name items now place d before c.self.view_is here value new (after_restart d) is refl)
    (λ is. values_set entries place new ∙ unwritten name items now place d before c.self.view_is here value new is)
