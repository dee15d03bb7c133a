use Rattle.std.proofs.Common.{max, refl, ap, sym, ◌∙◌, subst}
use Rattle.std.specs.Map.{keys_of}
use Rattle.siri_records.specs.Keyed.{Items, dead_of, living}
use Rattle.siri_store.specs.Held.{Held}
use Rattle.siri_responder.specs.Feeding.{AreMarked}
use Rattle.siri_responder.specs.Known.{Known}
use Rattle.siri_responder.proofs.Holds.{held_in_order}
use Rattle.siri_responder.proofs.Stands.{stands_clock, history_clock, touches}
use Rattle.siri_responder.proofs.responder.Responder.clock.Goals as goal

pub expire-requires-clause-ordered : goal.expire-requires-clause-ordered
expire-requires-clause-ordered c = rw c.advance.ensures (held_in_order _ c.self.invariant.stands)

pub invariant_of-self : goal.invariant_of-self
invariant_of-self c =
    let inside = c.self.inside in
    record {
      alive = c.expire.ensures.alive;
      room = c.expire.ensures.room;
      stands = rw (c.expire.ensures.store, c.advance.ensures)
          (history_clock inside.start inside.started inside.feeding.store.moment inside.feeding.store.entries c.args.now
          c.self.invariant.stands);
    }

pub returns-clause-stands : goal.returns-clause-stands
returns-clause-stands c = λ h s.
    let store = c.expire.ensures.store ∙ ap (λ (t : Held).
    record { entries = living t.moment t.entries; moment = t.moment; reads = t.reads }) c.advance.ensures in
    stands_clock c.args.self.now _ c.args.now h s
    (ap (λ (k : Known). k.start) c.self.view_is)
    (ap (λ (k : Known). k.started) c.self.view_is)
    (ap (λ (t : Held). t.moment) store ∙ ap (λ (k : Known). max k.moment c.args.now) c.self.view_is)
    (ap (λ (t : Held). t.entries) store ∙ ap (λ (k : Known). living (max k.moment c.args.now) k.held) c.self.view_is)

pub returns-clause-touched : goal.returns-clause-touched
returns-clause-touched c =
    let inside = c.self.inside in
    let moment = ap (λ (t : Held). t.moment) c.expire.ensures.store in
    let held = ap (λ (t : Held). t.entries) c.advance.ensures ∙ ap (λ (k : Known). k.held) c.self.view_is in
    let keys = ap (λ m. keys_of (dead_of m c.advance.new.self.entries)) (sym moment) ∙ ap (λ (es : Items). keys_of (dead_of c.expire.new.self.store.moment es)) held in
    touches c.args.self.now _ inside.feeding.marks c.expire.new.self.marks _ (ap (λ (k : Known). k.marks) c.self.view_is) refl
    (subst (λ ks. AreMarked inside.feeding.marks c.expire.new.self.marks ks) keys c.expire.ensures.marked)
