use Rattle.siri_keep.proofs.Answered.{told_closed}
use Rattle.siri_keep.proofs.KeptTurns.{goes_serving, keeps_answered}
use Rattle.siri_keep.proofs.kept.Kept.serve_one.Goals as goal

pub returns-then-self-clause-answered : goal.returns-then-self-clause-answered
returns-then-self-clause-answered g c = told_closed c.args.self.now _ _

pub returns-in-Ok-clause-ok : goal.returns-in-Ok-clause-ok
returns-in-Ok-clause-ok g c = goes_serving g.B.Shelf.tells c.args.self.now c.args.shelf.now c.take_turn-served.new.beside
    _ _ c.take_turn-served.new.taker _ _ _ _ _ c.take_turn-served.ensures.leaves (rw c.in-Ok.is at c.take_turn-served.ensures.ok)

pub returns-in-Ok-clause-answered : goal.returns-in-Ok-clause-answered
returns-in-Ok-clause-answered g c = keeps_answered g.B.Shelf.tells c.args.self.now c.args.shelf.now
    c.take_turn-served.new.beside _ _ c.take_turn-served.ensures.leaves

pub returns-in-Err-Failed-clause-answered : goal.returns-in-Err-Failed-clause-answered
returns-in-Err-Failed-clause-answered g c = keeps_answered g.B.Shelf.tells c.args.self.now c.args.shelf.now
    c.take_turn-served.new.beside _ _ c.take_turn-served.ensures.leaves

pub returns-in-Err-OutOfMemory-clause-answered : goal.returns-in-Err-OutOfMemory-clause-answered
returns-in-Err-OutOfMemory-clause-answered g c = keeps_answered g.B.Shelf.tells c.args.self.now c.args.shelf.now
    c.take_turn-served.new.beside _ _ c.take_turn-served.ensures.leaves
