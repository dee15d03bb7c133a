use Rattle.std.proofs.Common.{map}
use Rattle.siri_model.specs.History.{Observed}
use Rattle.siri_store.specs.Calls.{NoneDead}
use Rattle.siri_responder.specs.Feeding.{HasRoom, Reaches}
use Rattle.siri_responder.proofs.feeding.Feeding.observe_all.Given as goal

abbrev pub invariant-loop-item : goal.invariant-loop-item
invariant-loop-item l = record {
  alive : NoneDead l.self.store;
  room : HasRoom l.self;
  reached : Reaches l.fn.self l.self (map Observed l.fn.items) (map Observed l.item-iterator.rest.items);
}
