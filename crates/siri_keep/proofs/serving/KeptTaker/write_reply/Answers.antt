use Rattle.std.proofs.Common.{refl}
use Rattle.siri_keep.specs.declared.kept.Kept.{Kept}
use Rattle.siri_keep.proofs.KeptTurns.{holds_written}
use Rattle.siri_keep.proofs.serving.KeptTaker.write_reply.Goals as goal

pub returns-clause-holds : goal.returns-clause-holds
returns-clause-holds g c =
    let old : Kept = c.args.self.now in
    holds_written g.B.Shelf.tells c.write_reply.result old (record old { producer = c.write_reply.new.self }) refl
    c.write_reply.ensures.stands c.write_reply.ensures.keeps
