-- The text of a decimal is ASCII.
use Rattle.std.proofs.Common.{◌≡◌, ℕ, suc, ◌^◌, ◌/◌, ◌%◌, ◌<◌, inl, inr, false, eqb, ℤ, pos, negsuc, unsigned_abs, arith}
use Rattle.std.proofs.lemmas.Bool.{cases_lt}
use Rattle.std.proofs.lemmas.Bool.Decides.{nat_tests}
use Rattle.std.proofs.lemmas.Fmt.{IsAscii-decimal}
use Rattle.std.proofs.lemmas.Str.{IsAscii-take}
use Rattle.std.specs.Str.{IsAscii}
use Rattle.siri_time.proofs.Ascii.{Low, none, before, joined}
use Rattle.siri_tables.specs.Writing.{seven_wide, fraction_text, magnitude_text, decimal_text}

digits : (f : ℕ) → f < 10000000 → Low (seven_wide f)
digits f small =
    before _ (omega (arith, small)) (before _ (omega arith)
    (before _ (omega arith) (before _ (omega arith)
    (before _ (omega arith) (before _ (omega arith) (before _ (omega arith) none))))))

fraction : (f : ℕ) → f < 10000000 → Low (fraction_text f)
unfolding fraction_text
fraction f small = elim (cases_lt 0 f) [
  | inl some ↦
      let required : eqb f 0 ≡ false = grind (arith, nat_tests) in
      rw required (before 46 (omega arith) (record { is = IsAscii-take _ _ (digits f small).is }))
  | inr zero ↦ let same : f ≡ 0 = omega arith in rw same none
]

magnitude : (units : ℕ) → units < 2 ^ 64 → Low (magnitude_text units)
unfolding magnitude_text
magnitude units small =
    joined (record { is = IsAscii-decimal (units / 10000000) (omega (arith, small)) }) (fraction (units % 10000000) (omega arith))

pub IsAscii-decimal_text : (z : ℤ) → unsigned_abs z < 2 ^ 64 → IsAscii (decimal_text z)
unfolding decimal_text
IsAscii-decimal_text (pos units) small = (magnitude units small).is
IsAscii-decimal_text (negsuc n) small = (before 45 (omega arith) (magnitude (suc n) small)).is
