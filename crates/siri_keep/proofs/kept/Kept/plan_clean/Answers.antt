use Rattle.siri_keep.proofs.Making.{clean_leaves, clean_plans}
use Rattle.siri_keep.proofs.kept.Kept.plan_clean.Goals as goal

pub returns-clause-ok : goal.returns-clause-ok
returns-clause-ok c =
    let k = c.in_ok-put_dead.ensures.ok in
    rw (k.puts, c.new-puts.ensures) (clean_plans c.args.self.now c.put_dead.new.self c.in_ok-put_dead.ensures.producer k.mirror k.places)

pub returns-clause-cleaned : goal.returns-clause-cleaned
returns-clause-cleaned c =
    let k = c.in_ok-put_dead.ensures.ok in
    rw (k.puts, c.new-puts.ensures) (clean_leaves c.args.self.now c.put_dead.new.self c.in_ok-put_dead.ensures.producer k.mirror k.places)
