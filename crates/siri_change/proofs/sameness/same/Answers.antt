use Rattle.siri_change.proofs.SameItems.{same_parts}
use Rattle.siri_change.proofs.sameness.same.Goals as goal

pub returns-then-eq-clause-exact : goal.returns-then-eq-clause-exact
returns-then-eq-clause-exact c =
    same_parts c.args.a.now c.args.b.now c.near.result
    (cc (c.if-eq.true, c.eq.ensures, c.recorded_at.ensures, c.recorded_at-2.ensures))
    (cc (c.near.ensures, c.no_slack.ensures))
