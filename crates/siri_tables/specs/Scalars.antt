-- Numbers and decimals as texts.
use Rattle.std.specs.Prelude.{ℕ, ◌+◌, ◌*◌, ◌-◌, ℤ, pos, neg_ℤ, List, [], ◌∷◌, ◌++◌, length, take, drop, fold, codes, nat_lt, nat_le, ◌&&◌}
use Rattle.std.specs.Prelude.{◌==◌, Bool, true, false, if◌then◌else◌, Option, Some, None, option_map}
use Rattle.std.specs.List.{list_all, prefix_len}
use Rattle.std.specs.Char.{is_ascii_digit}

-- ---- decimals

-- digits behind others
abbrev pub number_on : ℕ → List ℕ → ℕ
number_on before digits = fold (λ number digit. 10 * number + (digit - 48)) before digits

-- the first seven digits of a fraction, with zeros for those that it doesn't have
abbrev pub seven_digits : List ℕ → List ℕ
seven_digits fraction = take 7 fraction ++ drop (length fraction) (codes "0000000")

-- at most 180 degrees
abbrev pub within_degrees : ℕ → Option ℕ
within_degrees units = if nat_le units 1800000000 then Some units else None

-- a whole part and a fraction in 10^-7 degrees, the digits past the seventh cut
abbrev pub units_of : List ℕ → List ℕ → Option ℕ
units_of whole fraction = within_degrees (number_on (number_on 0 whole) (seven_digits fraction))

-- what follows the digits of the whole part: nothing, or a point and digits; one digit in all at least
unfoldable pub units_after : List ℕ → List ℕ → Option ℕ
units_after [] [] = None
units_after (digit ∷ digits) [] = units_of (digit ∷ digits) []
units_after whole (first ∷ fraction) =
    if first == 46 && (list_all is_ascii_digit fraction && nat_lt 0 (length whole + length fraction)) then units_of whole fraction else None

-- a magnitude without its sign
unfoldable pub magnitude_of : List ℕ → Option ℕ
magnitude_of t = units_after (take (prefix_len is_ascii_digit t) t) (drop (prefix_len is_ascii_digit t) t)

-- an optional `+` or `-`: whether it is `-`, and what follows
abbrev pub sign_at : List ℕ → Bool × List ℕ
sign_at [] = (false, [])
sign_at (first ∷ rest) = if first == 45 then (true, rest) else (if first == 43 then (false, rest) else (false, first ∷ rest))

abbrev pub signed : Bool → ℕ → ℤ
signed negative units = if negative then neg_ℤ (pos units) else pos units

-- a decimal of at most 64 bytes, in 10^-7 degrees
unfoldable pub decimal_of : List ℕ → Option ℤ
decimal_of t = if nat_lt 64 (length t) then None else option_map (signed (sign_at t).0) (magnitude_of (sign_at t).1)
