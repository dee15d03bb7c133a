use Rattle.std.proofs.Common.{length, refl, ap, ◌∙◌, arith}
use Rattle.siri_store.specs.Held.{Held}
use Rattle.siri_responder.proofs.Stands.{stands_new, history_new}
use Rattle.siri_responder.proofs.responder.Responder.new.Goals as goal

pub returns-clause-stands : goal.returns-clause-stands
returns-clause-stands c =
    let store = c.new-3.ensures.store ∙ c.in_ok-new.ensures.value in
    stands_new _ c.args.start c.args.now refl refl (ap (λ (s : Held). s.moment) store) (ap (λ (s : Held). s.entries) store)

pub invariant_of-result : goal.invariant_of-result
invariant_of-result c =
    let store = c.new-3.ensures.store ∙ c.in_ok-new.ensures.value in
    let none = ap (λ (s : Held). length s.entries) store in
    record {
      room = record { few = omega (arith, none); room = omega (arith, none) };
      alive = rw (c.new-3.ensures.store) c.in_ok-new.ensures.alive;
      stands = rw (ap (λ (s : Held). s.moment) store, ap (λ (s : Held). s.entries) store) (history_new c.args.start c.args.now);
    }
