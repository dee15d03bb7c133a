use Rattle.std.proofs.Common.{refl}
use Rattle.siri_keep.specs.declared.kept.Kept.{Kept}
use Rattle.siri_keep.proofs.Making.{subscriptions_plans}
use Rattle.siri_keep.proofs.kept.Kept.plan_subscriptions.Goals as goal

pub returns-clause-ok : goal.returns-clause-ok
returns-clause-ok c =
    let old : Kept = c.args.self.now in
    let mid : Kept = record old { producer = c.take_owned.new.self } in
    let put = c.in_ok-put_subscriptions.ensures in
    rw (put.puts, c.new-puts.ensures) (subscriptions_plans old mid c.put_subscriptions.new.self c.args.message refl put.kept
    c.take_owned.ensures.name c.in_ok-answer.ensures.ok put.few c.requires.proper c.requires.short c.requires.fed)
