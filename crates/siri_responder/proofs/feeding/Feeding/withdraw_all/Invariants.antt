use Rattle.std.proofs.Common.{map, drop}
use Rattle.siri_model.specs.History.{Withdrawn}
use Rattle.siri_store.specs.Calls.{NoneDead}
use Rattle.siri_responder.specs.Feeding.{HasRoom, Reaches}
use Rattle.siri_responder.proofs.feeding.Feeding.withdraw_all.Given as goal

abbrev pub invariant-loop-key : goal.invariant-loop-key
invariant-loop-key l = record {
  alive : NoneDead l.self.store;
  room : HasRoom l.self;
  reached : Reaches l.fn.self l.self (map Withdrawn l.fn.removals) (map Withdrawn (drop l.key-index l.removals));
}
