use Rattle.std.proofs.Common.{None, Some, sym, ◌∙◌}
use Rattle.siri_subs.specs.Lent.{entry_of}
use Rattle.siri_producer.proofs.Lent.{known_for, outstanding_is, part_for}
use Rattle.siri_producer.proofs.producer.Producer.part.Goals as goal

pub returns-in-Some-clause-part : goal.returns-in-Some-clause-part
returns-in-Some-clause-part c = λ h s.
    let inside = c.self.inside in
    c.part_of.ensures.part
    ∙ part_for inside.responder inside.table inside.is_settled c.args.self.now c.self.view_is h s
    c.args.subscriber.now c.args.identifier.now (Some (entry_of c.in-Some.row)) (sym c.in-Some.ensures)

pub returns-in-Some-clause-known : goal.returns-in-Some-clause-known
returns-in-Some-clause-known c = λ h s.
    let inside = c.self.inside in
    let row = entry_of c.in-Some.row in
    c.part_of.ensures.known
    ∙ outstanding_is row.slot.rounds.outstanding
    ∙ known_for inside.responder inside.table inside.is_settled c.args.self.now c.self.view_is h s
    c.args.subscriber.now c.args.identifier.now (Some row) (sym c.in-Some.ensures)

pub returns-in-None-clause-part : goal.returns-in-None-clause-part
returns-in-None-clause-part c = λ h s.
    let inside = c.self.inside in
    part_for inside.responder inside.table inside.is_settled c.args.self.now c.self.view_is h s
    c.args.subscriber.now c.args.identifier.now None (sym c.in-None.ensures)

pub returns-in-None-clause-known : goal.returns-in-None-clause-known
returns-in-None-clause-known c = λ h s.
    let inside = c.self.inside in
    known_for inside.responder inside.table inside.is_settled c.args.self.now c.self.view_is h s
    c.args.subscriber.now c.args.identifier.now None (sym c.in-None.ensures)
