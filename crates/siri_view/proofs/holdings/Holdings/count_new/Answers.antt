use Rattle.std.proofs.Common.{◌≡◌, ℕ, ◌+◌, ◌∙◌, Bool, true, false, refl, arith, add-zero, sym}
use Rattle.siri_life.specs.Named.{Name}
use Rattle.siri_view.proofs.Firsts.{none_found, one_more}
use Rattle.siri_view.proofs.holdings.Holdings.count_new.Goals as goal
use Rattle.siri_view.proofs.holdings.Holdings.count_new.Goals.{then-not-has+then-is_none, else-not-has, else-not-has-via-then-not-has+else-is_none, else-not-has-via-else-not-has}

counts : (x y count next more : ℕ) → x ≡ y + more → count ≡ y → next ≡ count + more → next ≡ x
counts x y count next more step before is = omega arith

pub loop-place-preserved : goal.loop-place-preserved
loop-place-preserved c =
    let before = c.loop-place.invariant in
    let s = c.index-wanted-place.result in
    let step = λ (name : Name) (there : Bool) (new : Bool). one_more c.args.self.now name c.args.wanted.now c.loop-place.place s there new
    c.loop-place-test.true c.index-wanted-place.is in
    elim c.if-not-has.branch [
      | then-not-has+then-is_none w ↦
          let new = none_found _ _ _ _ w.get.ensures.kept w.is_none.ensures ∙ w.if-is_none.true in
          (λ name. counts _ _ _ _ 1 (step name false true (cc) new) (before.0 name) w.count-is, omega (arith, w.count-is, before.1))
      | else-not-has w ↦ elim w.else-not-has.branch [
        | else-not-has-via-then-not-has+else-is_none v ↦
            let old = none_found _ _ _ _ v.get.ensures.kept v.is_none.ensures ∙ v.if-is_none.false in
            (λ name. counts _ _ _ _ 0 (step name false false (cc) old) (before.0 name) (w.count-is ∙ sym (add-zero _)), omega (arith, w.count-is, before.1))
        | else-not-has-via-else-not-has v ↦
            (λ name. counts _ _ _ _ 0 (step name true _ (cc) refl) (before.0 name) (w.count-is ∙ sym (add-zero _)), omega (arith, w.count-is, before.1))
      ]
    ]
