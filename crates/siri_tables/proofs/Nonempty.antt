-- No written text is empty.
use Rattle.std.proofs.Common.{◌≡◌, ℕ, ◌/◌, ◌≤◌, inl, inr, false, eqb, List, ◌++◌, length, length-append, ℤ, pos, negsuc, unsigned_abs, arith}
use Rattle.std.proofs.lemmas.Bool.{cases_lt}
use Rattle.std.proofs.lemmas.Bool.Decides.{nat_tests}
use Rattle.std.proofs.lemmas.Fmt.{decimal_nonempty}
use Rattle.std.specs.Fmt.{decimal}
use Rattle.siri_time.specs.MomentText.{date_text, moment_text}
use Rattle.siri_time.specs.SpanText.{length_text, span_text}
use Rattle.siri_tables.specs.Writing.{magnitude_text, decimal_text}

after : (front back : List ℕ) → 1 ≤ length front → 1 ≤ length (front ++ back)
after front back some = omega (arith, length-append front back)

pub moment_text_nonempty : (m : ℕ) → 1 ≤ length (moment_text m)
unfolding moment_text date_text
moment_text_nonempty m = omega arith

length_some : (ms : ℕ) → 1 ≤ length (length_text ms)
unfolding length_text
length_some ms = elim (cases_lt 0 ms) [
  | inl some ↦ let required : eqb ms 0 ≡ false = grind (arith, nat_tests) in rw required (omega arith)
  | inr none ↦ let same : ms ≡ 0 = omega arith in rw same (omega arith)
]

pub span_text_nonempty : (s : ℤ) → 1 ≤ length (span_text s)
unfolding span_text
span_text_nonempty (pos ms) = length_some ms
span_text_nonempty (negsuc n) = omega arith

magnitude_some : (units : ℕ) → units ≤ 1800000000 → 1 ≤ length (magnitude_text units)
unfolding magnitude_text
magnitude_some units small = after (decimal (units / 10000000)) _ (decimal_nonempty (units / 10000000) (omega arith))

pub decimal_text_nonempty : (z : ℤ) → unsigned_abs z ≤ 1800000000 → 1 ≤ length (decimal_text z)
unfolding decimal_text
decimal_text_nonempty (pos units) small = magnitude_some units small
decimal_text_nonempty (negsuc n) small = omega arith
