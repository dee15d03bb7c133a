use Rattle.std.proofs.Common.{sym, subst}
use Rattle.siri_ends.specs.Answering.{AnswersWith, StopsWriting}
use Rattle.siri_ends.specs.At.{surroundings}
use Rattle.siri_ends.proofs.Lends.{on_err_too, on_ok}
use Rattle.siri_ends.proofs.serving.write_reply.Goals as goal

pub returns-in-Made-clause-ok : goal.returns-in-Made-clause-ok
returns-in-Made-clause-ok g c = on_ok c.finish.result _ _
    (λ wrote. λ h response stands is.
    subst (λ r. AnswersWith r
    (surroundings c.args.tally.now (g.W.Wire.tells c.args.wire.now) (g.W.Wire.faults c.args.wire.now))
    (surroundings c.finish.new.tally (g.W.Wire.tells c.finish.new.wire) (g.W.Wire.faults c.finish.new.wire)))
    (sym (rw c.in-Made.is at is)) wrote)
    c.finish.ensures.ok

pub returns-in-Made-clause-err : goal.returns-in-Made-clause-err
returns-in-Made-clause-err g c = on_err_too c.finish.result _ _
    (λ wrote. λ h response stands is.
    subst (λ r. StopsWriting r (g.W.Wire.tells c.args.wire.now) (g.W.Wire.tells c.finish.new.wire))
    (sym (rw c.in-Made.is at is)) wrote)
    c.finish.ensures.err

pub returns-in-Direct-clause-ok : goal.returns-in-Direct-clause-ok
returns-in-Direct-clause-ok g c = on_ok c.write_direct.result _ _
    (λ wrote. λ h response stands is.
    subst (λ r. AnswersWith r
    (surroundings c.args.tally.now (g.W.Wire.tells c.args.wire.now) (g.W.Wire.faults c.args.wire.now))
    (surroundings c.write_direct.new.tally (g.W.Wire.tells c.write_direct.new.wire)
    (g.W.Wire.faults c.write_direct.new.wire)))
    (sym (rw c.in-Direct.is at is)) (wrote h stands))
    c.write_direct.ensures.ok

pub returns-in-Direct-clause-err : goal.returns-in-Direct-clause-err
returns-in-Direct-clause-err g c = on_err_too c.write_direct.result _ _
    (λ wrote. λ h response stands is.
    subst (λ r. StopsWriting r (g.W.Wire.tells c.args.wire.now) (g.W.Wire.tells c.write_direct.new.wire))
    (sym (rw c.in-Direct.is at is))
    (wrote h stands))
    c.write_direct.ensures.err

pub returns-in-Part-clause-ok : goal.returns-in-Part-clause-ok
returns-in-Part-clause-ok g c = on_ok c.write_part.result _ _
    (λ wrote. λ h response stands is.
    let lends = rw c.in-Part.is at is in
    subst (λ r. AnswersWith r
    (surroundings c.args.tally.now (g.W.Wire.tells c.args.wire.now) (g.W.Wire.faults c.args.wire.now))
    (surroundings c.write_part.new.tally (g.W.Wire.tells c.write_part.new.wire)
    (g.W.Wire.faults c.write_part.new.wire)))
    (sym lends.response_is) (wrote h lends.part stands lends.kept))
    c.write_part.ensures.ok

pub returns-in-Part-clause-err : goal.returns-in-Part-clause-err
returns-in-Part-clause-err g c = on_err_too c.write_part.result _ _
    (λ wrote. λ h response stands is.
    let lends = rw c.in-Part.is at is in
    subst (λ r. StopsWriting r (g.W.Wire.tells c.args.wire.now) (g.W.Wire.tells c.write_part.new.wire))
    (sym lends.response_is)
    (wrote h lends.part stands lends.kept))
    c.write_part.ensures.err
