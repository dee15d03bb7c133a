-- A number that is written in decimal digits is read back.
use Rattle.std.proofs.Common.{◌≡◌, ℕ, ◌^◌, ◌<◌, ◌≤◌, length, true, ◌&&◌, Some, None, ap, ◌∙◌, arith, rules}
use Rattle.std.specs.Prelude.{nat_le}
use Rattle.std.specs.Char.{is_ascii_digit}
use Rattle.std.specs.Fmt.{decimal}
use Rattle.std.specs.List.{list_all}
use Rattle.std.specs.Str.Parse.{digits_value}
use Rattle.std.proofs.lemmas.Bool.{and_from, cond-true, le-leb}
use Rattle.std.proofs.lemmas.Fmt.{decimal_nonempty, digits_decimal, digits_value-decimal, length-decimal-le}
use Rattle.std.proofs.lemmas.Str.Parse.{IsNumeralModel, IsDigitsTest, numerals_by_value}
use Rattle.siri_subscriptions.specs.replies.Responses.{number_text}
use Rattle.siri_base.specs.Numbers.{number_of}

digits_only : IsDigitsTest (λ text. list_all is_ascii_digit text ≡ true)
digits_only = search rules

numerals : IsNumeralModel (λ text. list_all is_ascii_digit text ≡ true) (digits_value 10)
numerals = numerals_by_value (λ text. list_all is_ascii_digit text ≡ true) digits_only

-- of at most 18 digits
pub number_read_back : (number : ℕ) → number < 1000000000000000000 → number_of (number_text number) ≡ Some number
unfolding number_of
number_read_back number small =
    let fits : number < 2 ^ 64 = omega arith in
    let text = decimal number in
    let some : 1 ≤ length text = omega (arith, decimal_nonempty number fits) in
    let short : length text ≤ 18 = length-decimal-le 18 number (omega arith) (omega arith) fits in
    let passes = and_from (nat_le 1 (length text)) (nat_le (length text) 18 && list_all is_ascii_digit text)
    (le-leb 1 (length text) some) (and_from (nat_le (length text) 18) (list_all is_ascii_digit text)
    (le-leb (length text) 18 short) (digits_decimal numerals number fits)) in
    cond-true (nat_le 1 (length text) && (nat_le (length text) 18 && list_all is_ascii_digit text)) (Some (digits_value 10 text)) None passes
    ∙ ap Some (digits_value-decimal numerals number fits)
