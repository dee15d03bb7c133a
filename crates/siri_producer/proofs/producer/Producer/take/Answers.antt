use Rattle.std.proofs.Common.{rules}
use Rattle.siri_producer.proofs.producer.Producer.take.Goals as goal

pub returns-in_default-clause-ok : goal.returns-in_default-clause-ok
returns-in_default-clause-ok c = c.ignore.ensures.stands c.args.message.now (search rules)
