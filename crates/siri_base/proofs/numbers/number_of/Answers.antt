use Rattle.std.proofs.Common.{arith, Result, Ok, List, [], ◌∷◌, length, ◌<◌, ◌≤◌, ◌≡◌, ℕ, true, refl, nat_le}
use Rattle.std.proofs.lemmas.Bool.{le-leb}
use Rattle.std.specs.Str.{all_ascii_digits}
use Rattle.std.specs.List.{list_all}
use Rattle.std.specs.Char.{is_ascii_digit}
use Rattle.std.specs.Str.Parse.{ParsesUnsigned, digits_value}
use Rattle.std.proofs.lemmas.Str.Parse.{numerals_by_value, tells_all_ascii_digits, IsNumeralModel, parse_gives, digits_value_short}
use Rattle.siri_base.specs.Numbers.{number_of}
use Rattle.siri_base.proofs.numbers.number_of.Goals as goal

digits_are : (t : List ℕ) → list_all is_ascii_digit t ≡ all_ascii_digits t
digits_are [] = refl
digits_are (c ∷ cs) = rw (digits_are cs) refl

own : IsNumeralModel (λ ds. all_ascii_digits ds ≡ true) (digits_value 10)
own = numerals_by_value _ tells_all_ascii_digits

parsed : {E : Type 0} (t : List ℕ) (r : Result ℕ E) → ParsesUnsigned 64 10 t r → 0 < length t → length t ≤ 18
    → list_all is_ascii_digit t ≡ true → r ≡ Ok (digits_value 10 t)
parsed t r h some most p =
    let q : all_ascii_digits t ≡ true = rw digits_are at p in
    parse_gives own 64 t r h q some (omega (arith, digits_value_short own t 18 q most))

pub returns-then-is_all_digits : goal.returns-then-is_all_digits
unfolding number_of
returns-then-is_all_digits c =
    let all : list_all is_ascii_digit c.args.text.now ≡ true = cc in
    let read = parsed c.args.text.now c.parse.result c.parse.ensures.value.0 c.if-text-ge1.true c.if-text-le18.true all in
    let some : nat_le 1 (length c.args.text.now) ≡ true = le-leb _ _ c.if-text-ge1.true in
    let short : nat_le (length c.args.text.now) 18 ≡ true = le-leb _ _ c.if-text-le18.true in
    rw (c.ok.ensures.value, read, some, short, all) refl
