use Rattle.std.proofs.Common.{[], ◌∷◌, refl, ◌∙◌}
use Rattle.indexmap.specs.IndexMap.{values}
use Rattle.siri_view.specs.Consuming.{after_subscribe}
use Rattle.siri_world.proofs.Asked.{asks_subscribed}
use Rattle.siri_world.proofs.Found.{is_there, unwritten, written}
use Rattle.siri_world.proofs.Named.{name_kept, named_set, value_there, values_set}
use Rattle.siri_world.proofs.consumers.Consumers.subscribe.Goals as goal

pub invariant_of-self : goal.invariant_of-self
invariant_of-self c =
    let before = c.index_mut-consumer.result.now in
    named_set c.self.inside.map.entries c.args.place before c.subscribe.new.self c.index_mut-consumer.ensures.value
    (name_kept c.subscribe.result before c.subscribe.new.self
    (after_subscribe before c.in_ok-wanted.wanted c.args.beat) refl c.subscribe.ensures.ok
    c.subscribe.ensures.refused) c.self.invariant

pub returns : goal.returns
returns c = λ name d here.
    let entries = c.self.inside.map.entries in
    let items = values c.self.inside.map in
    let now = c.args.self.now in
    let place = c.args.place in
    let before = c.index_mut-consumer.result.now in
    let value = value_there items place before c.index_mut-consumer.ensures.value in
    let facts = c.subscribe.ensures in
    let wanted = c.args.wanted.now in
    let new = c.subscribe.new.self in
    asks_subscribed d wanted c.args.beat now before c.in_ok-wanted.wanted c.subscribe.result _ new
    (is_there name items now place d before c.self.view_is here value) c.in_ok-wanted.ensures
    facts.request facts.ok facts.spent facts.too_many.0 facts.at_most facts.not_not_held facts.refused
    (λ is. values_set entries place new ∙ written name items now place d before c.self.view_is here value new
    (after_subscribe d (wanted ∷ []) c.args.beat) is refl)
    (λ is. values_set entries place new ∙ unwritten name items now place d before c.self.view_is here value new is)
