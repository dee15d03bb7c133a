-- The row of a moment is read as the moment, the start and the name that it is written of.
use Rattle.std.proofs.Common.{◌≡◌, ◌≤◌, ◌<◌, ℕ, ◌+◌, ◌/◌, ◌%◌, Bool, true, false, List, [], ◌∷◌, ◌++◌, length, take, drop, Option, Some, refl, sym, ap, ◌∙◌, subst, arith, append_assoc}
use Rattle.std.specs.Prelude.{◌^◌, ◌==◌, IsUtf8, nat_le}
use Rattle.std.specs.Char.{is_ascii_digit}
use Rattle.std.specs.Fmt.{decimal}
use Rattle.std.specs.List.{AllByRecursion as All, after_first, before_first, list_all, position_or_len}
use Rattle.std.specs.Result.{result_ok}
use Rattle.std.specs.Str.{all_ascii_digits, is_utf8}
use Rattle.std.specs.Str.Parse.{digits_value}
use Rattle.std.proofs.Math.Seq.{drop-append-add, take-append_seam}
use Rattle.std.proofs.lemmas.Bool.{le-leb}
use Rattle.std.proofs.lemmas.Bool.Decides.{nat_tests}
use Rattle.std.proofs.lemmas.Fmt.{IsAscii-decimal, decimal_nonempty, digits_decimal, digits_value-decimal, length-decimal-le}
use Rattle.std.proofs.lemmas.Str.{IsUtf8-append, IsUtf8-from_ascii, is_utf8-from_IsUtf8}
use Rattle.std.proofs.lemmas.Str.Ascii.{IsAscii-cons, IsAscii-nil}
use Rattle.std.proofs.lemmas.Str.Parse.{IsNumeralModel, numerals_by_value, tells_all_ascii_digits}
use Rattle.siri_base.specs.Numbers.{number_of}
use Rattle.siri_time.specs.Moment.{moment_of}
use Rattle.siri_time.specs.Scan.{◌>>=◌}
use Rattle.siri_time.specs.MomentText.{date_text, fraction_text, moment_text, time_text, two_wide}
use Rattle.siri_time.proofs.Ascii.{IsAscii-moment_text}
use Rattle.siri_time.proofs.MomentRead.{moment_of-moment_text}
use Rattle.siri_time.specs.Calendar.{day_of, month_of, year_of}
use Rattle.siri_tables.specs.Proper.{IsMoment, IsName, IsNumber}
use Rattle.siri_tables.proofs.DecimalRead.{digits_are}
use Rattle.siri_row_texts.specs.declared.moments.Began.{Began}
use Rattle.siri_row_texts.specs.ItemRows.{moment_row}
use Rattle.siri_row_texts.specs.Reading.{began_of_row, is_space, name_in, parted}
use Rattle.siri_row_texts.proofs.Rows.{itself}

-- ---- texts without a space

abbrev HasNoSpace : List ℕ → Type 0
HasNoSpace = All (λ byte. is_space byte ≡ false)

joined : (xs ys : List ℕ) → HasNoSpace xs → HasNoSpace ys → HasNoSpace (xs ++ ys)
joined [] ys none more = more
joined (x ∷ xs) ys none more = (none.0, joined xs ys none.1 more)

place_is : (xs ys : List ℕ) → HasNoSpace xs → position_or_len is_space (xs ++ 32 ∷ ys) ≡ length xs
place_is [] ys none = refl
place_is (x ∷ xs) ys none = let rest = place_is xs ys none.1 in rw (none.0) (omega (arith, rest))

-- what stands before the first space, and what behind it
front_is : (xs ys : List ℕ) → HasNoSpace xs → before_first is_space (xs ++ 32 ∷ ys) ≡ xs
front_is xs ys none = ap (λ n. take n (xs ++ 32 ∷ ys)) (place_is xs ys none) ∙ take-append_seam xs (32 ∷ ys)

rest_is : (xs ys : List ℕ) → HasNoSpace xs → after_first is_space (xs ++ 32 ∷ ys) ≡ ys
rest_is xs ys none = ap (λ n. drop (n + 1) (xs ++ 32 ∷ ys)) (place_is xs ys none) ∙ drop-append-add xs (32 ∷ ys) 1

-- ---- moments and numbers have none

no_space : (byte : ℕ) → 33 ≤ byte → is_space byte ≡ false
no_space byte le = grind (arith, nat_tests)

wide : (n : ℕ) → HasNoSpace (two_wide n)
wide n = (no_space (48 + n / 10) (omega arith), (no_space (48 + n % 10) (omega arith), tt))

-- a byte before a text, and two digits before one
before : (byte : ℕ) (text : List ℕ) → is_space byte ≡ false → HasNoSpace text → HasNoSpace (byte ∷ text)
before byte text apart none = (apart, none)

after_two : (n : ℕ) (text : List ℕ) → HasNoSpace text → HasNoSpace (two_wide n ++ text)
after_two n text none = joined (two_wide n) text (wide n) none

date : (number : ℕ) → HasNoSpace (date_text number)
unfolding date_text
date number =
    let day = before 45 (two_wide (day_of number)) refl (wide (day_of number)) in
    let month = before 45 (two_wide (month_of number) ++ 45 ∷ two_wide (day_of number)) refl (after_two (month_of number) (45 ∷ two_wide (day_of number)) day) in
    let year = after_two (year_of number % 100) (45 ∷ two_wide (month_of number) ++ 45 ∷ two_wide (day_of number)) month in
    after_two (year_of number / 100) (two_wide (year_of number % 100) ++ 45 ∷ two_wide (month_of number) ++ 45 ∷ two_wide (day_of number)) year

time : (second : ℕ) → HasNoSpace (time_text second)
unfolding time_text
time second =
    let seconds = before 58 (two_wide (second % 60)) refl (wide (second % 60)) in
    let minutes = before 58 (two_wide (second / 60 % 60) ++ 58 ∷ two_wide (second % 60)) refl (after_two (second / 60 % 60) (58 ∷ two_wide (second % 60)) seconds) in
    after_two (second / 3600) (58 ∷ two_wide (second / 60 % 60) ++ 58 ∷ two_wide (second % 60)) minutes

fraction_by : (ms : ℕ) (b : Bool) → (ms == 0) ≡ b → HasNoSpace (fraction_text ms)
unfolding fraction_text
fraction_by ms true is = rw is tt
fraction_by ms false is = rw is (before 46 ((48 + ms / 100) ∷ two_wide (ms % 100)) refl (before (48 + ms / 100) (two_wide (ms % 100)) (no_space (48 + ms / 100) (omega arith)) (wide (ms % 100))))

moment_clear : (m : ℕ) → HasNoSpace (moment_text m)
unfolding moment_text
moment_clear m =
    let clock = before 84 (time_text (m / 1000 % 86400)) refl (time (m / 1000 % 86400)) in
    let front = joined (date_text (m / 86400000)) (84 ∷ time_text (m / 1000 % 86400)) (date (m / 86400000)) clock in
    let fraction = fraction_by (m % 1000) (m % 1000 == 0) refl in
    let more = joined (date_text (m / 86400000) ++ 84 ∷ time_text (m / 1000 % 86400)) (fraction_text (m % 1000)) front fraction in
    joined (date_text (m / 86400000) ++ 84 ∷ time_text (m / 1000 % 86400) ++ fraction_text (m % 1000)) (90 ∷ []) more (before 90 [] refl tt)

digit_clear : (byte : ℕ) → is_ascii_digit byte ≡ true → is_space byte ≡ false
digit_clear byte is = grind (arith, nat_tests)

digits_at : (byte : ℕ) (bytes : List ℕ) (b : Bool) → is_ascii_digit byte ≡ b → list_all is_ascii_digit (byte ∷ bytes) ≡ true
    → (is_ascii_digit byte ≡ true) × (list_all is_ascii_digit bytes ≡ true)
digits_at byte bytes true is are = (is, rw is at are)
digits_at byte bytes false is are = cc (rw is at are)

digits_clear : (bytes : List ℕ) → list_all is_ascii_digit bytes ≡ true → HasNoSpace bytes
digits_clear [] are = tt
digits_clear (byte ∷ bytes) are =
    let both = digits_at byte bytes (is_ascii_digit byte) refl are in
    (digit_clear byte both.0, digits_clear bytes both.1)

own : IsNumeralModel (λ ds. all_ascii_digits ds ≡ true) (digits_value 10)
own = numerals_by_value _ tells_all_ascii_digits

pub decimal_digits : (n : ℕ) → n < 2 ^ 64 → list_all is_ascii_digit (decimal n) ≡ true
decimal_digits n small = digits_are (decimal n) ∙ digits_decimal own n small

number_back : (n : ℕ) → IsNumber n → number_of (decimal n) ≡ Some n
unfolding number_of
number_back n small =
    let low : n < 2 ^ 64 = omega arith in
    let some : nat_le 1 (length (decimal n)) ≡ true = le-leb _ _ (decimal_nonempty n low) in
    let short : nat_le (length (decimal n)) 18 ≡ true = le-leb _ _ (length-decimal-le 18 n (omega arith) small low) in
    rw (some, short, decimal_digits n low, digits_value-decimal own n low) refl

-- ---- the row

-- what the three parts of a row say
abbrev pieces : List ℕ → List ℕ → List ℕ → Option Began
pieces front middle last = do
  moment ← result_ok (moment_of front)
  start ← number_of middle
  name ← name_in last
  Some (record { moment = moment; start = start; name = name })

after_space : (text : List ℕ) → IsUtf8 text → IsUtf8 (32 ∷ text)
after_space text utf8 = IsUtf8-append (32 ∷ []) text (IsUtf8-from_ascii (32 ∷ []) (IsAscii-cons 32 [] (omega arith) IsAscii-nil)) utf8

module _ (m start : ℕ) (name : List ℕ) (is_moment : IsMoment m) (some : 1 ≤ start) (is_number : IsNumber start) (is_name : IsName name) where
  abbrev began : Began
  began = record { moment = m; start = start; name = name }

  abbrev behind : List ℕ
  behind = decimal start ++ 32 ∷ name

  abbrev row : List ℕ
  row = moment_row m start name

  row_is : row ≡ moment_text m ++ 32 ∷ behind
  row_is = append_assoc (moment_text m) (32 ∷ decimal start) (32 ∷ name)

  row_utf8 : is_utf8 row ≡ true
  row_utf8 =
      let low : start < 2 ^ 64 = omega arith in
      let tail : IsUtf8 behind = IsUtf8-append (decimal start) (32 ∷ name) (IsUtf8-from_ascii (decimal start) (IsAscii-decimal start low)) (after_space name is_name.utf8) in
      is_utf8-from_IsUtf8 row (subst IsUtf8 (sym row_is)
      (IsUtf8-append (moment_text m) (32 ∷ behind) (IsUtf8-from_ascii (moment_text m) (IsAscii-moment_text m is_moment)) (after_space behind tail)))

  name_is : name_in name ≡ Some name
  name_is =
      let long : nat_le 1 (length name) ≡ true = le-leb _ _ is_name.some in
      let short : nat_le (length name) 255 ≡ true = le-leb _ _ is_name.bound in
      rw (long, short) refl

  whole : pieces (moment_text m) (decimal start) name ≡ Some began
  whole = rw (moment_of-moment_text m is_moment, number_back start is_number, name_is) refl

  parted_is : parted row ≡ Some began
  parted_is =
      let low : start < 2 ^ 64 = omega arith in
      let number = digits_clear (decimal start) (decimal_digits start low) in
      let front : before_first is_space row ≡ moment_text m = ap (before_first is_space) row_is ∙ front_is (moment_text m) behind (moment_clear m) in
      let rest : after_first is_space row ≡ behind = ap (after_first is_space) row_is ∙ rest_is (moment_text m) behind (moment_clear m) in
      let middle : before_first is_space (after_first is_space row) ≡ decimal start = ap (before_first is_space) rest ∙ front_is (decimal start) name number in
      let last : after_first is_space (after_first is_space row) ≡ name = ap (after_first is_space) rest ∙ rest_is (decimal start) name number in
      (λ i. pieces (front i) (middle i) (last i)) ∙ whole

  pub began_row_read : began_of_row row ≡ Some began
  unfolding began_of_row
  began_row_read =
      let from_one : nat_le 1 start ≡ true = le-leb _ _ some in
      rw (row_utf8, parted_is) (rw (from_one, itself row) refl)
