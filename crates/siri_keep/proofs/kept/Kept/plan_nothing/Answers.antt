use Rattle.std.proofs.Common.{refl}
use Rattle.siri_keep.specs.declared.kept.Kept.{Kept}
use Rattle.siri_keep.proofs.Making.{nothing_plans, rowless_feeds}
use Rattle.siri_keep.proofs.kept.Kept.plan_nothing.Goals as goal

pub returns-clause-ok : goal.returns-clause-ok
returns-clause-ok c =
    let old : Kept = c.args.self.now in
    let new : Kept = record old { producer = c.take_owned.new.self } in
    rw c.new-puts.ensures (nothing_plans old new c.args.message refl c.take_owned.ensures.name c.in_ok-answer.ensures.ok c.requires.proper
    (rowless_feeds c.args.message c.requires.rowless) c.requires.rowless)
