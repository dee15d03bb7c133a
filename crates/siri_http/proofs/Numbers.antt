-- Numbers as texts.
use Rattle.std.proofs.Common.{◌≡◌, ◌≤◌, ◌<◌, ℕ, List, [], ◌∷◌, None, Some, Option, Bool, true, false, length, zero, suc, refl, ap, arith, cond, is_some}
use Rattle.std.specs.Prelude.{◌&&◌, nat_le, IsAscii, IsUtf8}
use Rattle.std.specs.List.{list_all}
use Rattle.std.specs.Int.{is_in_range}
use Rattle.std.specs.Char.{is_ascii_digit}
use Rattle.std.specs.Str.Parse.{digits_value}
use Rattle.std.proofs.lemmas.Bool.{and_parts, leb-true, false≢true}
use Rattle.std.proofs.lemmas.Str.{IsUtf8-from_ascii}
use Rattle.siri_base.specs.Numbers.{number_of}

abbrev pub IsLow : (ℕ → Bool) → Type 0
IsLow test = (b : ℕ) → test b ≡ true → b < 128

pub ascii_from : (test : ℕ → Bool) → IsLow test → (bytes : List ℕ) → list_all test bytes ≡ true → IsAscii bytes
ascii_from test low [] all i = omega arith
ascii_from test low (b ∷ bytes) all zero = low b (and_parts _ _ all).0
ascii_from test low (b ∷ bytes) all (suc i) = ascii_from test low bytes (and_parts _ _ all).1 i

pub range_low : (from to b : ℕ) → to < 128 → is_in_range from to b ≡ true → b < 128
range_low from to b h e =
    let top : b ≤ to = leb-true b to (and_parts (nat_le from b) (nat_le b to) e).1 in
    omega (arith, h, top)

pub digit_low : IsLow is_ascii_digit
digit_low b e = range_low 48 57 b (omega arith) e

-- the bytes of a number are ASCII
pub digits_ascii : (digits : List ℕ) (number : ℕ) → number_of digits ≡ Some number → IsAscii digits
unfolding number_of
digits_ascii digits number e = choose (nat_le 1 (length digits) && (nat_le (length digits) 18 && list_all is_ascii_digit digits)) refl e
  where
    choose : (t : Bool) → (nat_le 1 (length digits)
        && (nat_le (length digits) 18 && list_all is_ascii_digit digits)) ≡ t
        → cond t (Some (digits_value 10 digits)) None ≡ Some number → IsAscii digits
    choose true t e = ascii_from is_ascii_digit digit_low digits (and_parts _ _ (and_parts _ _ t).1).1
    choose false t e = absurd (false≢true (ap is_some e))

-- bytes that are no text are no number
pub no_text_no_number : (bytes : List ℕ) → ¬ (IsUtf8 bytes) → None ≡ number_of bytes
no_text_no_number bytes not_text = choose (number_of bytes) refl
  where
    choose : (o : Option ℕ) → number_of bytes ≡ o → None ≡ o
    choose None e = refl
    choose (Some number) e = absurd (not_text (IsUtf8-from_ascii bytes (digits_ascii bytes number e)))
