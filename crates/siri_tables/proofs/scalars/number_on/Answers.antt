use Rattle.std.proofs.Common.{◌≡◌, ◌+◌, ◌*◌, ◌-◌, List, ◌∷◌, ℕ, refl, ap, sym, ◌∙◌, add-one, drop, drop-cons, get_or, min}
use Rattle.siri_tables.specs.Scalars.{number_on}
use Rattle.siri_tables.proofs.Capped.{most, next}
use Rattle.siri_tables.proofs.scalars.number_on.Goals as goal

pub loop-byte-preserved : goal.loop-byte-preserved
loop-byte-preserved c =
    let ds = c.args.digits.now in
    let i = c.loop-byte.byte-index in
    let n = c.loop-byte.number in
    let here : drop i ds ≡ get_or ds i 0 ∷ drop (i + 1) ds = drop-cons ds i 0 c.loop-byte-test.true ∙ rw (add-one) refl in
    rw (c.min-number.ensures, c.from.ensures, c.saturating_sub.ensures) (record {
      told = next n (get_or ds i 0) (drop (i + 1) ds) ∙ (ap (λ (xs : List ℕ). min 1800000001 (number_on n xs)) (sym here) ∙ c.loop-byte.invariant.told);
      small = most (10 * n + (get_or ds i 0 - 48));
    })
