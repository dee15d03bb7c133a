use Rattle.siri_keep.proofs.OpenCalls.{reopens_told, trail_planned}
use Rattle.siri_keep.proofs.kept.Kept.open.Goals as goal

pub returns-in_err-write_all-clause-trail : goal.returns-in_err-write_all-clause-trail
returns-in_err-write_all-clause-trail g c = trail_planned c.args.name c.args.start c.args.now c.in_ok-kept.field-0 c.in_ok-read.read _ _ _
    c.in_ok-kept.ensures.ok c.in_ok-read.ensures.told c.write_all.result c.write_all.ensures.told

pub returns-clause-ok : goal.returns-clause-ok
returns-clause-ok g c = reopens_told c.args.name c.args.start c.args.now c.in_ok-kept.field-0 c.in_ok-read.read _ _ _
    c.in_ok-kept.ensures.ok c.in_ok-read.ensures.told c.in_ok-write_all.field-0 c.in_ok-write_all.ensures.told

pub returns-clause-trail : goal.returns-clause-trail
returns-clause-trail g c = trail_planned c.args.name c.args.start c.args.now c.in_ok-kept.field-0 c.in_ok-read.read _ _ _
    c.in_ok-kept.ensures.ok c.in_ok-read.ensures.told c.write_all.result c.write_all.ensures.told
