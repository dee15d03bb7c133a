use Rattle.std.proofs.Common.{refl}
use Rattle.siri_ends.specs.Consuming.{ConsumesOne}
use Rattle.siri_ends.proofs.Consumes.{itself}
use Rattle.siri_ends.proofs.consuming.consume_one.Goals as goal

pub returns-in-Ok-clause-ok : goal.returns-in-Ok-clause-ok
returns-in-Ok-clause-ok g c = itself (ConsumesOne c.args.producer.now.host c.args.producer.now.path) _ _ _ c.in-Ok.ensures.ok

pub returns-in-Err-clause-err : goal.returns-in-Err-clause-err
returns-in-Err-clause-err g c = c.in-Err.ensures.err c.args.consumer.now refl
