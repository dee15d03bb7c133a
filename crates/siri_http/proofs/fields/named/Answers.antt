use Rattle.std.proofs.Common.{sym, ◌∙◌}
use Rattle.siri_http.proofs.FieldValues.{one_at, other_at}
use Rattle.siri_http.proofs.fields.named.Goals as goal
use Rattle.siri_http.proofs.fields.named.Goals.{then-same_name, else-same_name}

pub loop-header-preserved : goal.loop-header-preserved
loop-header-preserved c =
    elim c.if-same_name.branch [
      | then-same_name w ↦ rw w.found-is (w.and-found.ensures
          ∙ one_at c.args.name.now c.args.headers.now c.loop-header.header-index _ _ c.loop-header-test.true
          c.loop-header.invariant (sym c.same_name.ensures ∙ w.if-same_name.true))
      | else-same_name w ↦ rw w.found-is (other_at c.args.name.now c.args.headers.now c.loop-header.header-index _ _
          c.loop-header-test.true c.loop-header.invariant (sym c.same_name.ensures ∙ w.if-same_name.false))
    ]
