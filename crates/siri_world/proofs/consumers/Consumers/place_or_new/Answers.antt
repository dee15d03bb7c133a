use Rattle.std.proofs.Common.{◌-◌, [], ◌∷◌, length, sym, ap, ◌∙◌, subst, arith, length-append}
use Rattle.std.specs.Map.{values_of}
use Rattle.indexmap.specs.IndexMap.{values}
use Rattle.siri_view.specs.Consuming.{Consuming}
use Rattle.siri_world_model.specs.Consumers.{consumer_of, consumer_or_new, with_consumer}
use Rattle.siri_world.specs.Named.{AreNamed}
use Rattle.siri_world.specs.Places.{IsAt}
use Rattle.siri_world.proofs.Found.{at_consumer, new_at, new_with, with_there}
use Rattle.siri_world.proofs.Named.{inserted_last, length_values, named_more, values_more}
use Rattle.siri_world.proofs.consumers.Consumers.place_or_new.Goals as goal

pub returns-in-Some-clause-place : goal.returns-in-Some-clause-place
returns-in-Some-clause-place c =
    let name = c.args.name.now in
    let found = c.in-Some.ensures in
    subst (λ d. IsAt name c.args.self.now c.in-Some.place (consumer_or_new c.args.moment name d))
    (sym (at_consumer name c.args.self.now c.in-Some.place found.0 found.1)) found.1

pub returns-in-Some-clause-ok : goal.returns-in-Some-clause-ok
returns-in-Some-clause-ok c =
    let name = c.args.name.now in
    let found = c.in-Some.ensures in
    sym (with_there name c.args.self.now c.in-Some.place found.0 found.1)
    ∙ ap (λ d. with_consumer (consumer_or_new c.args.moment name d) c.args.self.now)
    (sym (at_consumer name c.args.self.now c.in-Some.place found.0 found.1))

pub invariant_of-self-in-None : goal.invariant_of-self-in-None
invariant_of-self-in-None c =
    let map = c.self.inside.map in
    let key = c.in_ok-key-in-None.key in
    let made = c.in_ok-new_consumer-in-None.field-0 in
    let bytes = c.in_ok-key-in-None.ensures.ok ∙ c.text.ensures.value in
    let last = inserted_last map key made c.args.name.now c.insert.new.self.entries c.self.invariant bytes
    (ap (consumer_of c.args.name.now) c.self.view_is ∙ c.in-None.ensures) c.in_ok-insert-in-None.ensures.entries in
    subst AreNamed (sym last) (named_more map.entries key made c.self.invariant
    (bytes ∙ sym (ap (λ (d : Consuming). d.name) c.in_ok-new_consumer-in-None.ensures)))

pub returns-in_ok-insert-in-None-clause-place : goal.returns-in_ok-insert-in-None-clause-place
returns-in_ok-insert-in-None-clause-place c =
    let map = c.self.inside.map in
    let key = c.in_ok-key-in-None.key in
    let made = c.in_ok-new_consumer-in-None.field-0 in
    let bytes = c.in_ok-key-in-None.ensures.ok ∙ c.text.ensures.value in
    let last = inserted_last map key made c.args.name.now c.insert.new.self.entries c.self.invariant bytes
    (ap (consumer_of c.args.name.now) c.self.view_is ∙ c.in-None.ensures) c.in_ok-insert-in-None.ensures.entries in
    let pushed = ap values_of last ∙ values_more map.entries key made in
    new_at c.args.moment c.args.name.now (values map) c.args.self.now (values c.insert.new.self) made
    (c.len.result - 1) c.self.view_is c.in-None.ensures c.in_ok-new_consumer-in-None.ensures pushed
    (omega (arith, c.len.ensures.len, length_values c.insert.new.self.entries, ap length pushed, length-append (values map) (made ∷ [])))

pub returns-in_ok-insert-in-None-clause-ok : goal.returns-in_ok-insert-in-None-clause-ok
returns-in_ok-insert-in-None-clause-ok c =
    let map = c.self.inside.map in
    let key = c.in_ok-key-in-None.key in
    let made = c.in_ok-new_consumer-in-None.field-0 in
    let bytes = c.in_ok-key-in-None.ensures.ok ∙ c.text.ensures.value in
    let last = inserted_last map key made c.args.name.now c.insert.new.self.entries c.self.invariant bytes
    (ap (consumer_of c.args.name.now) c.self.view_is ∙ c.in-None.ensures) c.in_ok-insert-in-None.ensures.entries in
    let pushed = ap values_of last ∙ values_more map.entries key made in
    new_with c.args.moment c.args.name.now (values map) c.args.self.now
    (values c.insert.new.self) made c.self.view_is c.in-None.ensures c.in_ok-new_consumer-in-None.ensures pushed
