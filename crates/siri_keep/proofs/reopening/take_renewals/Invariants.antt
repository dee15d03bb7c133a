use Rattle.std.proofs.Common.{◌≡◌, map, take}
use Rattle.siri_model.specs.History.{Take}
use Rattle.siri_keep.specs.Planning.{GoesOnBy}
use Rattle.siri_keep.proofs.reopening.take_renewals.Given as goal

abbrev pub invariant-loop-renewal : goal.invariant-loop-renewal
invariant-loop-renewal l = record {
  goes : GoesOnBy l.fn.producer l.producer (map Take (take l.renewal-index l.renewals));
  name : l.producer.responder.name ≡ l.fn.producer.responder.name;
}
