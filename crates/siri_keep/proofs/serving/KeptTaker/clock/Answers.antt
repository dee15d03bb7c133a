use Rattle.std.proofs.Common.{◌∷◌, [], Ok}
use Rattle.siri_model.specs.History.{Clock}
use Rattle.siri_keep.proofs.KeptTurns.{holds_after}
use Rattle.siri_keep.proofs.serving.KeptTaker.clock.Goals as goal

pub returns-in-Ok-clause-holds : goal.returns-in-Ok-clause-holds
returns-in-Ok-clause-holds g c = holds_after g.B.Shelf.tells c.args.shelf.now c.clock.new.shelf c.args.self.now c.clock.new.self
    (Clock c.args.now ∷ []) (Ok (tt {0})) c.in-Ok.ensures.ok
