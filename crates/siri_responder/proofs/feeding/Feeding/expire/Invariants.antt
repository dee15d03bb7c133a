use Rattle.std.proofs.Common.{length}
use Rattle.siri_responder.proofs.Leaving.{IsLeaving}
use Rattle.siri_responder.proofs.feeding.Feeding.expire.Given as goal

abbrev pub invariant-loop-left : goal.invariant-loop-left
invariant-loop-left l = IsLeaving l.fn.self l.self

-- each turn one item leaves
abbrev pub decreases-loop-left : goal.decreases-loop-left
decreases-loop-left l = length l.self.store.entries
