use Rattle.std.proofs.Common.{◌≡◌, map, take}
use Rattle.siri_model.specs.History.{Take}
use Rattle.siri_keep.specs.declared.opening.KeptRequest.{KeptRequest}
use Rattle.siri_keep.specs.Planning.{GoesOnBy}
use Rattle.siri_keep.proofs.reopening.take_requests.Given as goal

abbrev pub invariant-loop-kept : goal.invariant-loop-kept
invariant-loop-kept l = record {
  goes : GoesOnBy l.fn.producer l.producer (map (λ (r : KeptRequest). Take r.request) (take l.kept-index l.requests));
  name : l.producer.responder.name ≡ l.fn.producer.responder.name;
}
