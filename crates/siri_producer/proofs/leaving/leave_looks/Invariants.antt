use Rattle.siri_producer.proofs.Left.{AreLeft}
use Rattle.siri_producer.proofs.leaving.leave_looks.Given as goal

abbrev pub invariant-loop-place : goal.invariant-loop-place
invariant-loop-place l = AreLeft l.fn.marks.log l.initial.table l.place l.table
