use Rattle.siri_ends.specs.SinkLaws.{gathers_all}
use Rattle.siri_ends.proofs.lending.send_text.Goals as goal

pub returns-clause-told : goal.returns-clause-told
returns-clause-told g c =
    rw c.in_ok-gathered.ensures at
    (gathers_all _ c.write_piece.result c.in_ok-gathered.gathered.items c.put.new.gathered.items _ _ _ _ _ _
    (c.in_ok-put.ensures.takes)
    (record { told = rw c.deref.ensures.value at c.write_piece.ensures.told; cause = c.write_piece.ensures.cause }))
