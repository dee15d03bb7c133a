use Rattle.std.proofs.Common.{true, false, sym, ap, ◌∙◌}
use Rattle.std.specs.Prelude.{option_map}
use Rattle.siri_subs.specs.Lent.{entry_of}
use Rattle.siri_producer.specs.Quiet.{told}
use Rattle.siri_producer.proofs.Quiet.{found_nowhere, found_there, quiet_told, told_row}
use Rattle.siri_producer.proofs.producer.Producer.quiet.Goals as goal

pub returns-in_err-place : goal.returns-in_err-place
returns-in_err-place c = λ h s.
    let inside = c.self.inside in
    let subscriber = c.args.subscriber.now in
    let identifier = c.args.identifier.now in
    let none = found_nowhere subscriber identifier inside.table (sym c.place_of.ensures.place ∙ c.in_err-place.was) in
    c.from_residual.ensures ∙ sym (ap told none) ∙ quiet_told inside.responder inside.table inside.is_settled
    c.args.self.now h subscriber identifier c.self.invariant c.self.view_is c.if-not-self.false s

pub returns-in-Some : goal.returns-in-Some
returns-in-Some c = λ h s.
    let inside = c.self.inside in
    let subscriber = c.args.subscriber.now in
    let identifier = c.args.identifier.now in
    let row = entry_of c.in-Some.row in
    let found = found_there subscriber identifier inside.table c.in_ok-place.place
    (sym c.place_of.ensures.place ∙ c.in_ok-place.was) ∙ sym c.at.ensures ∙ ap (option_map entry_of) c.in-Some.is in
    sym (told_row row true (sym c.is_quiet.ensures ∙ c.if-is_quiet.true)) ∙ sym (ap told found)
    ∙ quiet_told inside.responder inside.table inside.is_settled c.args.self.now h subscriber identifier
    c.self.invariant c.self.view_is c.if-not-self.false s

pub returns-in_default : goal.returns-in_default
returns-in_default c = λ h s.
    let inside = c.self.inside in
    let subscriber = c.args.subscriber.now in
    let identifier = c.args.identifier.now in
    let row = entry_of c.in-Some.row in
    let found = found_there subscriber identifier inside.table c.in_ok-place.place
    (sym c.place_of.ensures.place ∙ c.in_ok-place.was) ∙ sym c.at.ensures ∙ ap (option_map entry_of) c.in-Some.is in
    sym (told_row row false (sym c.is_quiet.ensures ∙ c.if-is_quiet.false)) ∙ sym (ap told found)
    ∙ quiet_told inside.responder inside.table inside.is_settled c.args.self.now h subscriber identifier
    c.self.invariant c.self.view_is c.if-not-self.false s

pub returns-in_default-2 : goal.returns-in_default-2
returns-in_default-2 c = λ h s.
    let inside = c.self.inside in
    let subscriber = c.args.subscriber.now in
    let identifier = c.args.identifier.now in
    let none = found_there subscriber identifier inside.table c.in_ok-place.place
    (sym c.place_of.ensures.place ∙ c.in_ok-place.was) ∙ sym c.at.ensures
    ∙ ap (option_map entry_of) c.in_default.is in
    sym (ap told none) ∙ quiet_told inside.responder inside.table inside.is_settled c.args.self.now h subscriber
    identifier c.self.invariant c.self.view_is c.if-not-self.false s
