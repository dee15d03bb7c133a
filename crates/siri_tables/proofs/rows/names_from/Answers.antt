use Rattle.std.proofs.Common.{sym, ◌∙◌, ◌≡◌, ◌+◌, ap, false, true, List}
use Rattle.std.proofs.lemmas.Result.{err_from_is_err_and}
use Rattle.serde_json.specs.Data.{Data}
use Rattle.siri_json.specs.Shown.{shown}
use Rattle.siri_tables.specs.Rules.{found_from, inside, name, is_null}
use Rattle.siri_tables.proofs.Entries.{rest_from, rest_from-here, rest_from-all, found_passes, found_takes, found_fails, found_done, after}
use Rattle.siri_tables.proofs.rows.names_from.Goals as goal
use Rattle.siri_tables.proofs.rows.names_from.Goals.{then-not-is_null+in_ok-below_place+in_ok-push_some, else-not-is_null}

pub returns-in_err-below_place : goal.returns-in_err-below_place
returns-in_err-below_place c =
    let v = c.index-values-place.result in
    let vs = c.args.values.now in
    let place = c.loop-place.place in
    let rule = inside name c.args.inner.now in
    let here = rest_from-here place vs v c.loop-place-test.true c.index-values-place.is in
    let so_far = ap (λ (ds : List Data). after c.loop-place.found.items (found_from rule place ds)) (sym here) ∙ c.loop-place.invariant in
    let not_null : is_null (shown v) ≡ false = sym c.is_null.ensures ∙ c.if-not-is_null.true in
    let p = err_from_is_err_and c.from_residual.result c.from_residual.ensures.1 in
    rw (p.1, p.2) (found_fails rule c.loop-place.found.items place (shown v) (rest_from (place + 1) vs) _ _ not_null
    (c.in_err-below_place.ensures (rule (shown v)) c.inside.ensures) so_far)

pub loop-place-preserved : goal.loop-place-preserved
loop-place-preserved c =
    let v = c.index-values-place.result in
    let vs = c.args.values.now in
    let place = c.loop-place.place in
    let rule = inside name c.args.inner.now in
    let here = rest_from-here place vs v c.loop-place-test.true c.index-values-place.is in
    let so_far = ap (λ (ds : List Data). after c.loop-place.found.items (found_from rule place ds)) (sym here) ∙ c.loop-place.invariant in
    elim c.if-not-is_null.branch [
      | then-not-is_null+in_ok-below_place+in_ok-push_some w ↦
          let not_null : is_null (shown v) ≡ false = sym c.is_null.ensures ∙ w.if-not-is_null.true in
          rw (w.found-is, w.in_ok-push_some.ensures)
          (found_takes rule c.loop-place.found.items place (shown v) (rest_from (place + 1) vs) _ _ not_null
          (w.in_ok-below_place.ensures (rule (shown v)) w.inside.ensures) so_far)
      | else-not-is_null w ↦
          let null : is_null (shown v) ≡ true = sym c.is_null.ensures ∙ w.if-not-is_null.false in
          rw (w.found-is) (found_passes rule c.loop-place.found.items place (shown v) (rest_from (place + 1) vs) _ null so_far)
    ]

pub returns : goal.returns
returns c = rw (c.of.ensures) (found_done (inside name c.args.inner.now) c.loop-place.found.items c.loop-place.place
    (rest_from c.loop-place.place c.args.values.now) _
    (rest_from-all c.loop-place.place c.args.values.now c.loop-place-test.false) c.loop-place.invariant)
