use Rattle.std.proofs.Common.{flat_map}
use Rattle.siri_model.specs.History.{entries_in}
use Rattle.siri_store.specs.Calls.{NoneDead}
use Rattle.siri_responder.specs.Feeding.{HasRoom, Reaches}
use Rattle.siri_responder.proofs.feeding.Feeding.feed_all.Given as goal

abbrev pub invariant-loop-delivery : goal.invariant-loop-delivery
invariant-loop-delivery l = record {
  alive : NoneDead l.self.store;
  room : HasRoom l.self;
  reached : Reaches l.fn.self l.self (flat_map entries_in l.fn.deliveries) (flat_map entries_in l.delivery-iterator.rest.items);
}
