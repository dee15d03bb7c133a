use Rattle.std.proofs.Common.{[], ◌∷◌}
use Rattle.std.proofs.lemmas.Result.{IfOk-weaker}
use Rattle.siri_model.specs.History.{Start}
use Rattle.siri_keep.specs.Calls.{IsBegun}
use Rattle.siri_keep.specs.Planning.{Begins, Opens}
use Rattle.siri_keep.proofs.Opened.{begun_over}
use Rattle.siri_keep.proofs.Reopened.{opens_new}
use Rattle.siri_keep.proofs.reopening.plan_new.Goals as goal

pub returns-clause-opens : goal.returns-clause-opens
returns-clause-opens c =
    let begins = rw (c.new-2.ensures, c.new-3.ensures) at c.plan_rows.ensures in
    IfOk-weaker c.plan_rows.result (Begins c.in_ok-producer.producer [] []) (Opens c.args.name (Start c.args.start c.args.now ∷ []) [])
    (λ opened is. opens_new c.in_ok-producer.producer opened c.args.name c.args.start c.args.now is
    c.in_ok-producer.ensures.stands c.in_ok-producer.ensures.name c.requires.from_one c.requires.to_eighteen_digits) begins

pub returns-clause-begun : goal.returns-clause-begun
returns-clause-begun c =
    IfOk-weaker c.plan_rows.result (Begins c.in_ok-producer.producer c.new-2.result c.new-3.result)
    (λ opened. IsBegun c.args.name opened.kept) (λ opened is. begun_over c.in_ok-producer.producer c.new-2.result c.new-3.result opened c.args.name is
    (Start c.args.start c.args.now ∷ [], c.in_ok-producer.ensures.stands) c.in_ok-producer.ensures.name) c.plan_rows.ensures
