use Rattle.std.proofs.Common.{◌+◌}
use Rattle.siri_subscriptions.proofs.Done.{AreSettled}
use Rattle.siri_subscriptions.proofs.settling.carry_out.Given as goal

abbrev pub invariant-loop-due : goal.invariant-loop-due
invariant-loop-due l = AreSettled l.fn.responder.moment l.fn.responder.held (l.fn.responder.marks.number + 1) l.initial.table l.place l.table l.due-iterator.rest.items
