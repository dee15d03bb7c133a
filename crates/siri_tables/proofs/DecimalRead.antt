-- A written decimal is read as itself.
use Rattle.std.proofs.Common.{◌≡◌, ℕ, zero, suc, ◌+◌, ◌-◌, ◌*◌, ◌/◌, ◌%◌, ◌≤◌, ◌<◌, ◌⊎◌, inl, inr, true, false, leb, ltb, eqb, List, []}
use Rattle.std.proofs.Common.{◌∷◌, ◌++◌, length, length-append, take, Some, ℤ, pos, negsuc, unsigned_abs, refl, ◌∙◌, arith, rules, fold}
use Rattle.std.proofs.lemmas.Bool.{cases_lt, and_parts, le-leb}
use Rattle.std.proofs.lemmas.Bool.Decides.{nat_tests}
use Rattle.std.proofs.lemmas.Fmt.{decimal_nonempty, length-decimal-le, digits_decimal, digits_value-decimal}
use Rattle.std.proofs.lemmas.Str.Parse.{IsNumeralModel, numerals_by_fold}
use Rattle.std.proofs.Math.Seq.{take-append_seam, drop-append_seam}
use Rattle.std.specs.Char.{is_ascii_digit}
use Rattle.std.specs.Fmt.{decimal}
use Rattle.std.specs.List.{list_all, prefix_len}
use Rattle.std.specs.Str.{all_ascii_digits}
use Rattle.siri_time.proofs.MomentRead.{is_digit}
use Rattle.siri_time.proofs.SpanRead.{run}
use Rattle.siri_tables.specs.Scalars.{number_on, seven_digits, units_of, units_after, magnitude_of, sign_at, decimal_of}
use Rattle.siri_tables.specs.Writing.{seven_wide, without_zeros, fraction_text, magnitude_text, decimal_text}

own : IsNumeralModel (λ digits. all_ascii_digits digits ≡ true) (number_on 0)
own = numerals_by_fold _ (search rules) (λ n digits. fold (λ number digit. 10 * number + (digit - 48)) n digits) (search rules)

pub digits_are : (t : List ℕ) → list_all is_ascii_digit t ≡ all_ascii_digits t
digits_are [] = refl
digits_are (c ∷ cs) = rw (digits_are cs) refl

-- ---- the whole part

-- a digit and others
record Digits (text : List ℕ) : Type 0 where
  first : ℕ
  rest : List ℕ
  is : text ≡ first ∷ rest
  first_is : is_ascii_digit first ≡ true
  all : all_ascii_digits text ≡ true

split : (text : List ℕ) → all_ascii_digits text ≡ true → 0 < length text → Digits text
split [] all some = absurd (omega arith)
split (d ∷ ds) all some = record { first = d; rest = ds; is = refl; first_is = (and_parts (is_ascii_digit d) (all_ascii_digits ds) all).0; all = all }

whole_digits : (n : ℕ) → n ≤ 180 → Digits (decimal n)
whole_digits n small = split (decimal n) (digits_decimal own n (omega arith)) (decimal_nonempty n (omega arith))

run_to_end : (digits : List ℕ) → all_ascii_digits digits ≡ true → prefix_len is_ascii_digit (digits ++ []) ≡ length digits
run_to_end [] each = refl
run_to_end (digit ∷ digits) each =
    let parts = and_parts (is_ascii_digit digit) (all_ascii_digits digits) each in
    let here : is_ascii_digit digit ≡ true = parts.0 in
    rw (here, run_to_end digits parts.1) (omega arith)

-- ---- the fraction

-- a digit that is zero, or one that isn't
zero_or : (digit : ℕ) → (digit ≡ 48) ⊎ (eqb digit 48 ≡ false)
zero_or digit = elim (cases_lt digit 48) [
  | inl below ↦ inr (grind (arith, nat_tests))
  | inr upto ↦ elim (cases_lt 48 digit) [
    | inl above ↦ inr (grind (arith, nat_tests))
    | inr same ↦ inl (omega arith)
  ]
]

-- the zeros that were cut come back
abbrev Pads : List ℕ → Type 0
Pads digits = seven_digits (without_zeros digits) ≡ digits

pads_1 : (a : ℕ) → Pads (a ∷ 48 ∷ 48 ∷ 48 ∷ 48 ∷ 48 ∷ 48 ∷ [])
pads_1 a = elim (zero_or a) [ inl same ↦ rw same refl | inr other ↦ rw other refl ]

pads_2 : (a b : ℕ) → Pads (a ∷ b ∷ 48 ∷ 48 ∷ 48 ∷ 48 ∷ 48 ∷ [])
pads_2 a b = elim (zero_or b) [ inl same ↦ rw same (pads_1 a) | inr other ↦ rw other refl ]

pads_3 : (a b c : ℕ) → Pads (a ∷ b ∷ c ∷ 48 ∷ 48 ∷ 48 ∷ 48 ∷ [])
pads_3 a b c = elim (zero_or c) [ inl same ↦ rw same (pads_2 a b) | inr other ↦ rw other refl ]

pads_4 : (a b c d : ℕ) → Pads (a ∷ b ∷ c ∷ d ∷ 48 ∷ 48 ∷ 48 ∷ [])
pads_4 a b c d = elim (zero_or d) [ inl same ↦ rw same (pads_3 a b c) | inr other ↦ rw other refl ]

pads_5 : (a b c d e : ℕ) → Pads (a ∷ b ∷ c ∷ d ∷ e ∷ 48 ∷ 48 ∷ [])
pads_5 a b c d e = elim (zero_or e) [ inl same ↦ rw same (pads_4 a b c d) | inr other ↦ rw other refl ]

pads_6 : (a b c d e f : ℕ) → Pads (a ∷ b ∷ c ∷ d ∷ e ∷ f ∷ 48 ∷ [])
pads_6 a b c d e f = elim (zero_or f) [ inl same ↦ rw same (pads_5 a b c d e) | inr other ↦ rw other refl ]

pads : (a b c d e f g : ℕ) → Pads (a ∷ b ∷ c ∷ d ∷ e ∷ f ∷ g ∷ [])
pads a b c d e f g = elim (zero_or g) [ inl same ↦ rw same (pads_6 a b c d e f) | inr other ↦ rw other refl ]

all_wide : (f : ℕ) → f < 10000000 → list_all is_ascii_digit (seven_wide f) ≡ true
all_wide f small =
    rw (
      is_digit (f / 1000000) (omega arith),
      is_digit (f / 100000 % 10) (omega arith),
      is_digit (f / 10000 % 10) (omega arith),
      is_digit (f / 1000 % 10) (omega arith),
      is_digit (f / 100 % 10) (omega arith),
      is_digit (f / 10 % 10) (omega arith),
      is_digit (f % 10) (omega arith),
    ) refl

all_taken : (n : ℕ) (text : List ℕ) → list_all is_ascii_digit text ≡ true → list_all is_ascii_digit (take n text) ≡ true
all_taken zero text all = refl
all_taken (suc n) [] all = refl
all_taken (suc n) (d ∷ ds) all =
    let parts = and_parts (is_ascii_digit d) (list_all is_ascii_digit ds) all in
    let here : is_ascii_digit d ≡ true = parts.0 in
    rw (here, all_taken n ds parts.1) refl

value_wide : (w f : ℕ) → f < 10000000 → number_on w (seven_wide f) ≡ 10000000 * w + f
value_wide w f small = omega arith

-- ---- a magnitude

within : (whole : List ℕ) (fraction : List ℕ) (units : ℕ) → units ≤ 1800000000
    → number_on (number_on 0 whole) (seven_digits fraction) ≡ units → units_of whole fraction ≡ Some units
within whole fraction units small is =
    let known : leb units 1800000000 ≡ true = le-leb _ _ small in
    rw (is, known) refl

-- the parts of a text: the digits of the whole part, and what follows
parts_read : (whole rest : List ℕ) → prefix_len is_ascii_digit (whole ++ rest) ≡ length whole → magnitude_of (whole ++ rest) ≡ units_after whole rest
unfolding magnitude_of
parts_read whole rest is = rw (is, take-append_seam whole rest, drop-append_seam whole rest) refl

no_fraction : (whole : List ℕ) → Digits whole → units_after whole [] ≡ units_of whole []
unfolding units_after
no_fraction whole d = rw (d.is) refl

with_fraction : (whole fraction : List ℕ) → Digits whole → list_all is_ascii_digit fraction ≡ true → units_after whole (46 ∷ fraction) ≡ units_of whole fraction
unfolding units_after
with_fraction whole fraction d all =
    let some : ltb 0 (length (d.first ∷ d.rest) + length fraction) ≡ true = grind (arith, nat_tests) in
    rw (d.is, all, some) refl

whole_value : (n : ℕ) → n ≤ 180 → number_on 0 (decimal n) ≡ n
whole_value n small = digits_value-decimal own n (omega arith)

magnitude_read : (units : ℕ) → units ≤ 1800000000 → magnitude_of (magnitude_text units) ≡ Some units
unfolding magnitude_text fraction_text
magnitude_read units small =
    let w = units / 10000000 in
    let f = units % 10000000 in
    let d = whole_digits w (omega arith) in
    elim (cases_lt 0 f) [
      | inl some ↦
          let required : eqb f 0 ≡ false = grind (arith, nat_tests) in
          let zeros = pads (48 + f / 1000000) (48 + f / 100000 % 10) (48 + f / 10000 % 10) (48 + f / 1000 % 10)
          (48 + f / 100 % 10) (48 + f / 10 % 10) (48 + f % 10) in
          let all = all_taken _ (seven_wide f) (all_wide f (omega arith)) in
          let value : number_on (number_on 0 (decimal w)) (seven_digits (without_zeros (seven_wide f))) ≡ units =
          rw (whole_value w (omega arith), zeros, value_wide w f (omega arith)) (omega arith) in
          rw required (parts_read (decimal w) (46 ∷ without_zeros (seven_wide f)) (run (decimal w) 46 _ d.all refl)
          ∙ with_fraction (decimal w) (without_zeros (seven_wide f)) d all ∙ within (decimal w) (without_zeros (seven_wide f)) units small value)
      | inr none ↦
          let same : f ≡ 0 = omega arith in
          let value : number_on (number_on 0 (decimal w)) (seven_digits []) ≡ units = rw (whole_value w (omega arith)) (omega arith) in
          rw same (parts_read (decimal w) [] (run_to_end (decimal w) d.all) ∙ no_fraction (decimal w) d ∙ within (decimal w) [] units small value)
    ]

-- ---- with its sign

-- a text that begins with a digit has no sign
no_sign : (text rest : List ℕ) → Digits text → sign_at (text ++ rest) ≡ (false, text ++ rest)
no_sign text rest d =
    let first_is = d.first_is in
    let no_minus : eqb d.first 45 ≡ false = grind (arith, nat_tests) in
    let no_plus : eqb d.first 43 ≡ false = grind (arith, nat_tests) in
    rw (d.is, no_minus, no_plus) refl

magnitude_has_no_sign : (units : ℕ) → units ≤ 1800000000 → sign_at (magnitude_text units) ≡ (false, magnitude_text units)
unfolding magnitude_text
magnitude_has_no_sign units small = no_sign (decimal (units / 10000000)) (fraction_text (units % 10000000)) (whole_digits (units / 10000000) (omega arith))

length-taken : (n : ℕ) (text : List ℕ) → length (take n text) ≤ length text
length-taken zero text = omega arith
length-taken (suc n) [] = omega arith
length-taken (suc n) (d ∷ ds) = omega (arith, length-taken n ds)

length-cut : (digits : List ℕ) → length (without_zeros digits) ≤ length digits
length-cut digits = length-taken _ digits

length-fraction : (f : ℕ) → length (fraction_text f) ≤ 8
unfolding fraction_text
length-fraction f = elim (cases_lt 0 f) [
  | inl some ↦
      let required : eqb f 0 ≡ false = grind (arith, nat_tests) in
      let wide : length (seven_wide f) ≡ 7 = refl in
      let cut : length (without_zeros (seven_wide f)) ≤ length (seven_wide f) = length-cut (seven_wide f) in
      rw required (omega (arith, cut, wide))
  | inr none ↦ let same : f ≡ 0 = omega arith in rw same (omega arith)
]

length-magnitude : (units : ℕ) → units ≤ 1800000000 → length (magnitude_text units) ≤ 11
unfolding magnitude_text
length-magnitude units small =
    let whole : length (decimal (units / 10000000)) ≤ 3 = length-decimal-le 3 (units / 10000000) (omega arith) (omega arith) (omega arith) in
    omega (arith, whole, length-fraction (units % 10000000), length-append (decimal (units / 10000000)) (fraction_text (units % 10000000)))

-- a written decimal is read as itself
pub decimal_of-decimal_text : (z : ℤ) → unsigned_abs z ≤ 1800000000 → decimal_of (decimal_text z) ≡ Some z
unfolding decimal_of decimal_text
decimal_of-decimal_text (pos units) small =
    let short : ltb 64 (length (magnitude_text units)) ≡ false = grind (arith, nat_tests, length-magnitude units) in
    rw (short, magnitude_has_no_sign units small, magnitude_read units small) refl
decimal_of-decimal_text (negsuc n) small =
    let short : ltb 64 (suc (length (magnitude_text (suc n)))) ≡ false = grind (arith, nat_tests, length-magnitude (suc n)) in
    rw (short, magnitude_read (suc n) small) refl
