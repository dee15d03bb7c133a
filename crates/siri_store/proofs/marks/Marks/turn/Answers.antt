use Rattle.std.proofs.Common.{◌+◌, add-one, arith}
use Rattle.siri_store.proofs.Marking.{rises_to}
use Rattle.siri_store.proofs.Touching.{marks_touch}
use Rattle.siri_store.proofs.marks.Marks.turn.Goals as goal

pub invariant_of-self : goal.invariant_of-self
invariant_of-self c = rises_to c.self.inside.number (c.self.inside.number + 1) _ (omega arith) c.self.invariant

pub returns-clause-fresh : goal.returns-clause-fresh
returns-clause-fresh c = rw add-one (marks_touch.anew c.self.inside.log.items c.self.inside.number c.self.invariant)
