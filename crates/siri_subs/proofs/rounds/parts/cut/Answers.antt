use Rattle.std.proofs.Common.{take, ap, sym, ◌∙◌}
use Rattle.siri_records.proofs.Placed.{take_whole}
use Rattle.siri_subs.proofs.rounds.parts.cut.Goals as goal

pub returns-then-rest-le-MOST_IN_A_PART-clause-part : goal.returns-then-rest-le-MOST_IN_A_PART-clause-part
returns-then-rest-le-MOST_IN_A_PART-clause-part c =
    sym (take_whole c.split_at.result.1.now 100 c.if-rest-le-MOST_IN_A_PART.true) ∙ ap (λ rest. take 100 rest) c.split_at.ensures.back
