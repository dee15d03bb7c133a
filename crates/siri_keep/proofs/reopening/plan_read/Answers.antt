use Rattle.std.proofs.Common.{◌≡◌, ◌<◌, sym, ◌∙◌, arith}
use Rattle.std.specs.Cmp.Lexicographic.{bytes_decides}
use Rattle.siri_keep.proofs.Reopened.{plans_read}
use Rattle.siri_keep.proofs.SaidRows.{unnegated}
use Rattle.siri_keep.proofs.reopening.plan_read.Goals as goal

pub returns-clause-ok : goal.returns-clause-ok
returns-clause-ok c = λ rows says.
    let named : c.args.read.began.name ≡ c.args.name =
    (bytes_decides c.args.read.began.name c.args.name).0 (unnegated _ (sym c.ne.ensures ∙ c.if-ne.false)) in
    let earlier : c.args.read.began.start < c.args.start = omega (arith, c.if-start-read.false) in
    plans_read c.args.name c.args.start c.args.now c.args.read rows c.in_ok-reopen.field-0 named earlier c.in_ok-reopen.ensures.opens says
