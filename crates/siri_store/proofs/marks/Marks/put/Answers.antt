use Rattle.std.proofs.Common.{arith, ap}
use Rattle.siri_store.specs.Marked.{Marked}
use Rattle.siri_store.proofs.Marking.{rises_to}
use Rattle.siri_store.proofs.marks.Marks.put.Goals as goal

pub invariant_of-self : goal.invariant_of-self
invariant_of-self c =
    rises_to c.marks.inside.number c.self.inside.number c.marks.inside.log.items
    (omega (arith, c.requires, ap (λ (m : Marked). m.number) c.marks.view_is, ap (λ (m : Marked). m.number) c.self.view_is))
    c.marks.invariant
