use Rattle.std.proofs.Common.{◌≡◌, Some, None, ap, sym, ◌∙◌}
use Rattle.std.specs.Prelude.{option_map}
use Rattle.siri_ends.specs.Answering.{StopsWriting, Writes}
use Rattle.siri_ends.specs.At.{surroundings}
use Rattle.siri_producer.specs.Lent.{part_of}
use Rattle.siri_ends.proofs.Lends.{lends_kept, on_err_too, on_ok, part_said}
use Rattle.siri_ends.proofs.lending.write_part.Goals as goal

pub returns-in-Some-clause-ok : goal.returns-in-Some-clause-ok
returns-in-Some-clause-ok g c = on_ok c.write_lent_part.result _ _
    (λ wrote. λ h part stands kept.
    part_said
    (λ response. Writes response
    (surroundings c.args.tally.now (g.W.Wire.tells c.args.wire.now) (g.W.Wire.faults c.args.wire.now))
    (surroundings c.write_lent_part.new.tally (g.W.Wire.tells c.write_lent_part.new.wire)
    (g.W.Wire.faults c.write_lent_part.new.wire)))
    _ _ _ _ c.in-Some.lent part c.name.ensures (c.start.ensures ∙ stands.responder.start)
    (lends_kept c.in-Some.lent part _ (ap (option_map part_of) (sym c.in-Some.is) ∙ c.part.ensures.part h stands) kept)
    wrote)
    c.write_lent_part.ensures.ok

pub returns-in-Some-clause-err : goal.returns-in-Some-clause-err
returns-in-Some-clause-err g c = on_err_too c.write_lent_part.result _ _
    (λ wrote. λ h part stands kept.
    part_said (λ response. StopsWriting (Some response) (g.W.Wire.tells c.args.wire.now)
    (g.W.Wire.tells c.write_lent_part.new.wire))
    _ _ _ _ c.in-Some.lent part c.name.ensures (c.start.ensures ∙ stands.responder.start)
    (lends_kept c.in-Some.lent part _ (ap (option_map part_of) (sym c.in-Some.is) ∙ c.part.ensures.part h stands) kept)
    wrote)
    c.write_lent_part.ensures.err

pub returns-in-None-clause-ok : goal.returns-in-None-clause-ok
returns-in-None-clause-ok g c = λ h part stands kept.
    let none : None ≡ Some part = ap (option_map part_of) (sym c.in-None.is) ∙ c.part.ensures.part h stands ∙ kept in
    absurd (cc none)
