use Rattle.std.proofs.Common.{refl, ◌∙◌}
use Rattle.indexmap.specs.IndexMap.{values}
use Rattle.siri_view.specs.Consuming.{after_terminate}
use Rattle.siri_world.proofs.Asked.{asks_terminated}
use Rattle.siri_world.proofs.Found.{is_there, unwritten, written}
use Rattle.siri_world.proofs.Named.{name_kept, named_set, value_there, values_set}
use Rattle.siri_world.proofs.consumers.Consumers.terminate.Goals as goal

pub invariant_of-self : goal.invariant_of-self
invariant_of-self c =
    let before = c.index_mut-consumer.result.now in
    named_set c.self.inside.map.entries c.args.place before c.terminate.new.self c.index_mut-consumer.ensures.value
    (name_kept c.terminate.result before c.terminate.new.self
    (after_terminate before c.args.identifier.now) refl c.terminate.ensures.ok c.terminate.ensures.refused)
    c.self.invariant

pub returns : goal.returns
returns c = λ name d here.
    let entries = c.self.inside.map.entries in
    let items = values c.self.inside.map in
    let now = c.args.self.now in
    let place = c.args.place in
    let before = c.index_mut-consumer.result.now in
    let value = value_there items place before c.index_mut-consumer.ensures.value in
    let facts = c.terminate.ensures in
    let new = c.terminate.new.self in
    asks_terminated d c.args.identifier.now now before c.terminate.result _ new (is_there name items now place d before c.self.view_is here value)
    facts.request facts.ok facts.not_held facts.spent facts.not_too_many facts.refused
    (λ is. values_set entries place new ∙ written name items now place d before c.self.view_is here value new (after_terminate d c.args.identifier.now) is refl)
    (λ is. values_set entries place new ∙ unwritten name items now place d before c.self.view_is here value new is)
