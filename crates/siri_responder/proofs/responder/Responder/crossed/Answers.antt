use Rattle.siri_responder.proofs.Holds.{held_in_order}
use Rattle.siri_responder.proofs.responder.Responder.crossed.Goals as goal

pub crossed-requires : goal.crossed-requires
crossed-requires c = record { ordered = held_in_order _ c.self.invariant.stands }
