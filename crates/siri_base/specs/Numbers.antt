-- Numbers as texts: identifiers, starts and counts of an exchange have 1 to 18 digits.
use Rattle.std.specs.Prelude.{ℕ, ◌&&◌, nat_le, List, length, Option, Some, None, if◌then◌else◌}
use Rattle.std.specs.List.{list_all}
use Rattle.std.specs.Char.{is_ascii_digit}
use Rattle.std.specs.Str.Parse.{digits_value}

-- the greatest number of 18 digits
abbrev pub greatest_number : ℕ
greatest_number = 999999999999999999

-- a number as a text: 1 to 18 digits
unfoldable pub number_of : List ℕ → Option ℕ
number_of text =
    if nat_le 1 (length text) && (nat_le (length text) 18 && list_all is_ascii_digit text) then Some (digits_value 10 text) else None
