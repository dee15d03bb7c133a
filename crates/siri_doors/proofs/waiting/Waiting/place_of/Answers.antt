use Rattle.std.proofs.Common.{sym, ◌∙◌}
use Rattle.siri_doors.proofs.Places.{none_more}
use Rattle.siri_doors.proofs.waiting.Waiting.place_of.Goals as goal

pub loop-place-preserved : goal.loop-place-preserved
loop-place-preserved c =
    none_more c.args.slot c.deref-gathered-items.result.now c.loop-place.place c.gathered-item.result c.loop-place-test.true c.loop-place.invariant
    c.gathered-item.is (sym c.is_in.ensures ∙ c.if-is_in.false)
