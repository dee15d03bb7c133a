use Rattle.siri_producer.proofs.Stands.{follows_started, is_started, started}
use Rattle.siri_producer.proofs.producer.Producer.new.Goals as goal

pub invariant_of-result : goal.invariant_of-result
invariant_of-result c = is_started _ _ c.args.start c.args.now c.in_ok-new.ensures.stands c.in_ok-new-2.ensures

pub returns-clause-stands : goal.returns-clause-stands
returns-clause-stands c = started _ _ c.args.start c.args.now c.in_ok-new.ensures.stands c.in_ok-new-2.ensures

pub returns-clause-follows : goal.returns-clause-follows
returns-clause-follows c = follows_started _ _ c.args.start c.args.now c.in_ok-new.ensures.stands c.in_ok-new-2.ensures
