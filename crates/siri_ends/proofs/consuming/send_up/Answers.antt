use Rattle.std.proofs.Common.{refl}
use Rattle.siri_ends.specs.Consuming.{SendsUp}
use Rattle.siri_ends.proofs.Consumes.{itself}
use Rattle.siri_ends.proofs.Lends.{on_err_too, on_ok}
use Rattle.siri_ends.proofs.consuming.send_up.Goals as goal

pub returns-clause-ok : goal.returns-clause-ok
returns-clause-ok g c = on_ok c.send_all.result _ _ (λ goes. itself (SendsUp c.args.producer.now.host c.args.producer.now.path c.args.list) _ _ _ goes) c.send_all.ensures.ok

pub returns-clause-err : goal.returns-clause-err
returns-clause-err g c = on_err_too c.send_all.result _ _ (λ stops. stops c.args.consumer.now refl) c.send_all.ensures.err
