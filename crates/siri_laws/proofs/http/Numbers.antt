-- The number of a Content-Length is read back.
use Rattle.std.proofs.Common.{◌≡◌, ◌≤◌, ◌<◌, ◌^◌, ℕ, true, false, List, [], ◌∷◌, Some, length, reverse, refl, ap, ap₂, ◌∙◌, arith, ne_eqb, le-leb, leb-true}
use Rattle.std.specs.Prelude.{IsTrue, ◌||◌, nat_le, cond}
use Rattle.std.specs.Char.{is_ascii_digit}
use Rattle.std.specs.Fmt.{decimal}
use Rattle.std.specs.List.{list_all}
use Rattle.std.specs.Str.Parse.{AllDigits, IsNumeral, digits_value}
use Rattle.std.proofs.lemmas.Bool.{and_parts}
use Rattle.std.proofs.lemmas.Fmt.{decimal_is_IsNumeral, length-decimal-le}
use Rattle.std.proofs.lemmas.List.Elements.{All-head}
use Rattle.std.proofs.lemmas.List.Sums.{AllPass-from_list_all}
use Rattle.std.proofs.lemmas.Str.Parse.{digit_from_value}
use Rattle.httparse.specs.Grammar.{AllPass, is_ows, skip_ows, trim_ows}
use Rattle.httparse.proofs.TrimLemmas.{AllPass-reverse, trim_ows_space}
use Rattle.siri_base.specs.Numbers.{number_of}
use Rattle.siri_laws.proofs.http.Bytes.{both_true}

-- ---- digits have no white space around them

not_ows : (b : ℕ) → is_ascii_digit b ≡ true → is_ows b ≡ false
not_ows b is =
    let parts = and_parts (nat_le 48 b) (nat_le b 57) is in
    let above : 48 ≤ b = leb-true 48 b parts.0 in
    ap₂ (λ x y. x || y) (ne_eqb b 32 (λ e. absurd (omega (arith, e, above)))) (ne_eqb b 9 (λ e. absurd (omega (arith, e, above))))

no_ows : (digits : List ℕ) → AllPass is_ascii_digit digits → skip_ows digits ≡ digits
no_ows [] all = refl
no_ows (b ∷ digits) all = ap (λ t. cond t (skip_ows digits) (b ∷ digits)) (not_ows b (All-head (λ x. IsTrue (is_ascii_digit x)) b digits all))

pub digits_trimmed : (digits : List ℕ) → list_all is_ascii_digit digits ≡ true → trim_ows (32 ∷ digits) ≡ digits
digits_trimmed digits all =
    let pass : AllPass is_ascii_digit digits = AllPass-from_list_all is_ascii_digit digits all in
    trim_ows_space digits (no_ows digits pass) (no_ows (reverse digits) (AllPass-reverse is_ascii_digit digits pass))

-- ---- what is written of a number

digits_all : (digits : List ℕ) → AllDigits 10 digits → list_all is_ascii_digit digits ≡ true
digits_all [] all = refl
digits_all (b ∷ digits) all =
    let is = digit_from_value b all.0 in
    both_true (is_ascii_digit b) (list_all is_ascii_digit digits)
    (both_true (nat_le 48 b) (nat_le b 57) (le-leb 48 b (omega (arith, is))) (le-leb b 57 (omega (arith, is)))) (digits_all digits all.1)

number_is : (digits : List ℕ) → 1 ≤ length digits → length digits ≤ 18 → list_all is_ascii_digit digits ≡ true
    → number_of digits ≡ Some (digits_value 10 digits)
unfolding number_of
number_is digits some few all =
    let low : nat_le 1 (length digits) ≡ true = le-leb 1 (length digits) some in
    let high : nat_le (length digits) 18 ≡ true = le-leb (length digits) 18 few in
    rw (low, high, all) refl

module _ (n : ℕ) (small : n < 10 ^ 7) where
  few : length (decimal n) ≤ 7
  few = length-decimal-le 7 n (omega arith) small (omega (arith, small))

  numeral : IsNumeral 10 (decimal n) × (digits_value 10 (decimal n) ≡ n)
  numeral = decimal_is_IsNumeral n (omega (arith, small))

  pub decimal_digits : list_all is_ascii_digit (decimal n) ≡ true
  decimal_digits = digits_all (decimal n) numeral.0.1

  pub decimal_short : length (decimal n) ≤ 7
  decimal_short = few

  -- it is read back from behind a space
  pub decimal_read : number_of (trim_ows (32 ∷ decimal n)) ≡ Some n
  decimal_read =
      ap number_of (digits_trimmed (decimal n) decimal_digits)
      ∙ number_is (decimal n) (omega (arith, numeral.0.0)) (omega (arith, few)) decimal_digits ∙ ap Some numeral.1
