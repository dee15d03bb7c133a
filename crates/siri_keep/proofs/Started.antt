-- The row of a moment that is read back has a start from 1 on, which is a number.
use Rattle.std.proofs.Common.{◌≡◌, ◌≤◌, ℕ, List, length, Bool, true, false, cond, ◌&&◌, Option, None, Some, sym, ◌∙◌, subst}
use Rattle.std.specs.Prelude.{nat_le}
use Rattle.std.specs.Char.{is_ascii_digit}
use Rattle.std.specs.List.{after_first, before_first, list_all}
use Rattle.std.specs.Option.{option_and_then}
use Rattle.std.specs.Result.{result_ok}
use Rattle.std.specs.Str.{all_ascii_digits, bytes_eq, is_utf8}
use Rattle.std.specs.Str.Parse.{digits_value}
use Rattle.std.proofs.lemmas.Bool.{and_parts, leb-true}
use Rattle.std.proofs.lemmas.Option.{cond_some, option_and_then_some, same_Some}
use Rattle.std.proofs.lemmas.Str.Parse.{IsNumeralModel, digits_value_short, numerals_by_value, tells_all_ascii_digits}
use Rattle.siri_base.specs.Numbers.{number_of}
use Rattle.siri_time.specs.Moment.{moment_of}
use Rattle.siri_tables.specs.Proper.{IsNumber}
use Rattle.siri_tables.proofs.DecimalRead.{digits_are}
use Rattle.siri_row_texts.specs.declared.moments.Began.{Began}
use Rattle.siri_row_texts.specs.ItemRows.{moment_row}
use Rattle.siri_row_texts.specs.Reading.{began_of_row, if_begun, is_space, name_in, parted}

own : IsNumeralModel (λ ds. all_ascii_digits ds ≡ true) (digits_value 10)
own = numerals_by_value _ tells_all_ascii_digits

number_small : (text : List ℕ) (n : ℕ) → number_of text ≡ Some n → IsNumber n
unfolding number_of
number_small text n is =
    let whole = cond_some (nat_le 1 (length text) && (nat_le (length text) 18 && list_all is_ascii_digit text)) (digits_value 10 text) n is in
    let parts = and_parts (nat_le 1 (length text)) (nat_le (length text) 18 && list_all is_ascii_digit text) whole.0 in
    let rest = and_parts (nat_le (length text) 18) (list_all is_ascii_digit text) parts.1 in
    subst IsNumber whole.1 (digits_value_short own text 18 (sym (digits_are text) ∙ rest.1) (leb-true _ _ rest.0))

start_small : (text : List ℕ) (b : Began) → parted text ≡ Some b → IsNumber b.start
start_small text b is =
    let rest = after_first is_space text in
    option_and_then_some _ (result_ok (moment_of (before_first is_space text))) b is (λ moment at more.
    option_and_then_some _ (number_of (before_first is_space rest)) b more (λ start there last.
    option_and_then_some _ (name_in (after_first is_space rest)) b last (λ name named same.
    subst (λ (x : Began). IsNumber x.start) (same_Some _ _ same) (number_small (before_first is_space rest) start there))))

if_some : {X : Type 0} (b : Bool) (o : Option X) (x : X) → cond b o None ≡ Some x → o ≡ Some x
if_some true o x is = is
if_some false o x is = cc

pub begun_start : (text : List ℕ) (b : Began) → began_of_row text ≡ Some b → (1 ≤ b.start) × IsNumber b.start
unfolding began_of_row
begun_start text b is =
    option_and_then_some (if_begun text) (parted text) b
    (if_some (is_utf8 text) (option_and_then (if_begun text) (parted text)) b is) (λ x there got.
    let whole = cond_some (nat_le 1 x.start && bytes_eq (moment_row x.moment x.start x.name) text) x b got in
    let low = and_parts (nat_le 1 x.start) (bytes_eq (moment_row x.moment x.start x.name) text) whole.0 in (
      subst (λ (y : Began). 1 ≤ y.start) whole.1 (leb-true 1 x.start low.0),
      subst (λ (y : Began). IsNumber y.start) whole.1 (start_small text x there),
    ))
