use Rattle.std.proofs.Common.{sym, ◌∙◌, ◌≡◌, ◌+◌, ap, false, true, List}
use Rattle.std.proofs.lemmas.Result.{err_from_is_err_and}
use Rattle.serde_json.specs.Data.{Data}
use Rattle.siri_json.specs.Shown.{shown}
use Rattle.siri_json.specs.declared.path.Step.TheVariants.{Place}
use Rattle.siri_tables.specs.Rules.{entries_from, is_null}
use Rattle.siri_tables.proofs.Entries.{rest_from, rest_from-here, rest_from-all, passes, pushes, was_read, fails_read, done, after}
use Rattle.siri_tables.proofs.rows.entries_from.Goals as goal
use Rattle.siri_tables.proofs.rows.entries_from.Goals.{then-not-is_null+in_ok-below_place, else-not-is_null}

pub returns-in_err-below_place : goal.returns-in_err-below_place
returns-in_err-below_place g c =
    let v = c.index-values-place.result in
    let vs = c.args.values.now in
    let place = c.loop-place.place in
    let rule = g.R.RuleIn.rule_in c.args.with.now in
    let here = rest_from-here place vs v c.loop-place-test.true c.index-values-place.is in
    let so_far = ap (λ (ds : List Data). after c.loop-place.found.items (entries_from rule place ds)) (sym here) ∙ c.loop-place.invariant in
    let not_null : is_null (shown v) ≡ false = sym c.is_null.ensures ∙ c.if-not-is_null.true in
    let p = err_from_is_err_and c.from_residual.result c.from_residual.ensures.1 in
    rw (p.1, p.2) (fails_read rule c.loop-place.found.items place (shown v) (rest_from (place + 1) vs) _ _ not_null
    (c.in_err-below_place.ensures _ c.push_required.ensures.read) so_far)

pub loop-place-preserved : goal.loop-place-preserved
loop-place-preserved g c =
    let v = c.index-values-place.result in
    let vs = c.args.values.now in
    let place = c.loop-place.place in
    let rule = g.R.RuleIn.rule_in c.args.with.now in
    let here = rest_from-here place vs v c.loop-place-test.true c.index-values-place.is in
    let so_far = ap (λ (ds : List Data). after c.loop-place.found.items (entries_from rule place ds)) (sym here) ∙ c.loop-place.invariant in
    elim c.if-not-is_null.branch [
      | then-not-is_null+in_ok-below_place w ↦
          let not_null : is_null (shown v) ≡ false = sym c.is_null.ensures ∙ w.if-not-is_null.true in
          let pushed = was_read w.push_required.result (Place place) _ w.in_ok-below_place.ensures w.push_required.ensures.pushed in
          rw (w.found-is) (pushes rule c.loop-place.found.items place (shown v) (rest_from (place + 1) vs) _ _ not_null
          (w.in_ok-below_place.ensures _ w.push_required.ensures.read) pushed so_far)
      | else-not-is_null w ↦
          let null : is_null (shown v) ≡ true = sym c.is_null.ensures ∙ w.if-not-is_null.false in
          rw (w.found-is) (passes rule c.loop-place.found.items place (shown v) (rest_from (place + 1) vs) _ null so_far)
    ]

pub returns : goal.returns
returns g c = rw (c.of.ensures) (done (g.R.RuleIn.rule_in c.args.with.now) c.loop-place.found.items c.loop-place.place
    (rest_from c.loop-place.place c.args.values.now) _
    (rest_from-all c.loop-place.place c.args.values.now c.loop-place-test.false) c.loop-place.invariant)
