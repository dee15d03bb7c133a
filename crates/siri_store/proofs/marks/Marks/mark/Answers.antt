use Rattle.std.proofs.Common.{sym, subst, arith, refl, List, ℕ}
use Rattle.siri_records.specs.declared.key.Key.{Key}
use Rattle.siri_store.specs.Marked.{Rises}
use Rattle.siri_store.proofs.Marking.{rises_push, length_push}
use Rattle.siri_store.proofs.marks.Marks.mark.Goals as goal

pub invariant_of-self : goal.invariant_of-self
invariant_of-self c =
    subst (λ (log : List (ℕ × Key)). Rises c.self.inside.number log) (sym c.push_back_reserved.ensures.items)
    (rises_push c.self.inside.number c.self.inside.log.items c.args.key c.self.invariant)

pub returns-clause-mark : goal.returns-clause-mark
returns-clause-mark c = rw (← c.self.view_is, c.push_back_reserved.ensures.items) refl

pub returns-clause-room : goal.returns-clause-room
returns-clause-room c =
    rw (← c.self.view_is, c.push_back_reserved.ensures.items)
    (omega (arith, c.push_back_reserved.ensures.capacity, length_push c.self.inside.log.items (c.self.inside.number, c.args.key)))
