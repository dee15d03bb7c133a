use Rattle.std.proofs.Common.{◌∙◌, ap}
use Rattle.std.proofs.lemmas.Result.{IfOk-weaker, on_ok_weaker}
use Rattle.indexmap.specs.IndexMap.{values}
use Rattle.siri_view.specs.Consuming.{Consuming, after_message, seen_of}
use Rattle.siri_world.proofs.Found.{is_there, written}
use Rattle.siri_world.proofs.Named.{name_kept, named_set, value_there, values_set}
use Rattle.siri_world.proofs.Requests.{name_stays}
use Rattle.siri_world.proofs.consumers.Consumers.take.Goals as goal

pub invariant_of-self : goal.invariant_of-self
invariant_of-self c =
    let before = c.index_mut-consumer.result.now in
    let m = c.args.message.now in
    named_set c.self.inside.map.entries c.args.place before c.take.new.self c.index_mut-consumer.ensures.value
    (name_kept c.take.result before c.take.new.self (after_message before m)
    (name_stays before m) c.take.ensures.consumer c.take.ensures.refused)
    c.self.invariant

pub returns-clause-seen : goal.returns-clause-seen
returns-clause-seen c = IfOk-weaker c.take.result _ _ (λ seen is name d here.
    let before = c.index_mut-consumer.result.now in
    let items = values c.self.inside.map in
    let value = value_there items c.args.place before c.index_mut-consumer.ensures.value in
    is ∙ ap (λ (e : Consuming). seen_of e c.args.message.now)
    (is_there name items c.args.self.now c.args.place d before c.self.view_is here value)) c.take.ensures.seen

pub returns-clause-ok : goal.returns-clause-ok
returns-clause-ok c = on_ok_weaker c.take.result (λ is name d here.
    let before = c.index_mut-consumer.result.now in
    let items = values c.self.inside.map in
    let value = value_there items c.args.place before c.index_mut-consumer.ensures.value in
    let there = is_there name items c.args.self.now c.args.place d before c.self.view_is here value in
    values_set c.self.inside.map.entries c.args.place c.take.new.self
    ∙ written name items c.args.self.now c.args.place d before c.self.view_is here value c.take.new.self
    (after_message d c.args.message.now) (is ∙ ap (λ (e : Consuming). after_message e c.args.message.now) there)
    (name_stays d c.args.message.now)) c.take.ensures.consumer
