use Rattle.std.proofs.Common.{subst}
use Rattle.siri_model.specs.History.{History}
use Rattle.siri_responder.specs.Known.{Known, StandsFor}
use Rattle.siri_responder.proofs.Holds.{held_in_order, held_keyed, held_few}
use Rattle.siri_responder.proofs.Stands.{history_known}
use Rattle.siri_responder.proofs.responder.Responder.held.Goals as goal

pub returns-clause-stands : goal.returns-clause-stands
returns-clause-stands c =
    let inside = c.self.inside in
    let store = inside.feeding.store in
    let known : Known = record {
      name = inside.name;
      start = inside.start;
      started = inside.started;
      moment = store.moment;
      held = store.entries;
      reads = store.reads;
      marks = inside.feeding.marks;
    } in
    subst (λ (k : Known). (h : History) × StandsFor k h) c.self.view_is (history_known known c.self.invariant.stands)

pub returns-clause-in_order : goal.returns-clause-in_order
returns-clause-in_order c = held_in_order c.args.self.now (returns-clause-stands c)

pub returns-clause-keyed : goal.returns-clause-keyed
returns-clause-keyed c = held_keyed c.args.self.now (returns-clause-stands c)

pub returns-clause-few : goal.returns-clause-few
returns-clause-few c = held_few c.args.self.now (returns-clause-stands c)
