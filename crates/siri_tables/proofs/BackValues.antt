-- What was written is spelled again: a lemma a rule.
use Rattle.std.proofs.Common.{◌≡◌, ℕ, ◌<◌, ◌≤◌, ◌^◌, Bool, true, false, nat_le, List, [], ◌∷◌, length, ℤ, pos, Option, Some, None, Result}
use Rattle.std.proofs.Common.{Ok, refl, ap, ◌∙◌, arith}
use Rattle.std.specs.Prelude.{IfSome, option_and_then}
use Rattle.std.specs.List.{list_all}
use Rattle.std.specs.Char.{is_ascii_digit}
use Rattle.std.specs.Str.{all_ascii_digits}
use Rattle.std.specs.Str.Parse.{digits_value}
use Rattle.std.specs.Fmt.{decimal as digits}
use Rattle.std.proofs.lemmas.Bool.{le-leb}
use Rattle.std.proofs.lemmas.Fmt.{digits_decimal, digits_value-decimal, decimal_nonempty, length-decimal-le}
use Rattle.std.proofs.lemmas.Str.Parse.{IsNumeralModel, numerals_by_value, tells_all_ascii_digits}
use Rattle.serde_json.specs.Data.{Data, object, string, Members}
use Rattle.siri_json.specs.Canonical.{as_texts}
use Rattle.siri_json.specs.Values.{string_found, found, text_in, flag_in, object_in}
use Rattle.siri_time.specs.Moment.{moment_of}
use Rattle.siri_time.specs.MomentText.{moment_text}
use Rattle.siri_time.specs.Span.{span_of}
use Rattle.siri_time.specs.SpanText.{span_text}
use Rattle.siri_time.proofs.MomentRead.{moment_of-moment_text}
use Rattle.siri_time.proofs.SpanRead.{span_of-span_text}
use Rattle.siri_tables.specs.Refusals.{Refusal}
use Rattle.siri_tables.specs.Rules.{read_from_text, bounded, name, text, moment, moment_or, span, span_or, non_negative_span, number}
use Rattle.siri_tables.specs.Rules.{decimal, or_refused, flag, table, table_unless_blank}
use Rattle.siri_base.specs.Numbers.{number_of}
use Rattle.siri_tables.specs.Scalars.{decimal_of}
use Rattle.siri_tables.specs.Writing.{written_text, written_number, written_moment, written_span, written_decimal, written_flag, decimal_text}
use Rattle.siri_tables.specs.Proper.{IsTextWithin, IsName, IsText, IsMoment, IsSpan, IsNumber, IsDecimal}
use Rattle.siri_tables.proofs.Back.{GivesBack}
use Rattle.siri_tables.proofs.DecimalRead.{digits_are, decimal_of-decimal_text}
use Rattle.siri_tables.proofs.Nonempty.{moment_text_nonempty, span_text_nonempty, decimal_text_nonempty}

-- ---- texts

kept : (t : List ℕ) → 1 ≤ length t → string_found t ≡ found t
kept [] h = absurd (omega arith)
kept (b ∷ bs) h = refl

-- a text that isn't empty is read on
pub text_again : {A : Type 0} (read : List ℕ → Result A Refusal) (t : List ℕ) (x : A) → 1 ≤ length t → read t ≡ Ok x
    → read_from_text read (string t) ≡ Ok (Some x)
unfolding read_from_text text_in
text_again read t x some is = rw (kept t some, is) refl

within_again : (most : ℕ) (t : List ℕ) → IsTextWithin most t → read_from_text (bounded most) (string t) ≡ Ok (Some t)
within_again most t is =
    let fits : nat_le (length t) most ≡ true = le-leb _ _ is.bound in
    text_again (bounded most) t t is.some (rw fits refl)

pub name_back : (t : List ℕ) → IsName t → GivesBack name (written_text t) (Some t)
name_back t is = within_again 255 t is

pub some_name_back : (o : Option (List ℕ)) → IfSome o IsName → GivesBack name (option_and_then written_text o) o
some_name_back None is = refl
some_name_back (Some t) is = name_back t is

pub text_back : (t : List ℕ) → IsText t → GivesBack text (written_text t) (Some t)
text_back t is = within_again 16384 t is

-- ---- flags

pub flag_back : (b : Bool) → GivesBack flag (written_flag b) (Some b)
unfolding flag flag_in
flag_back b = refl

-- ---- numbers

own : IsNumeralModel (λ ds. all_ascii_digits ds ≡ true) (digits_value 10)
own = numerals_by_value _ tells_all_ascii_digits

number_of-digits : (n : ℕ) → n < 10 ^ 18 → number_of (digits n) ≡ Some n
unfolding number_of
number_of-digits n lt =
    let wide : n < 2 ^ 64 = omega arith in
    let short : nat_le (length (digits n)) 18 ≡ true = le-leb _ _ (length-decimal-le 18 n (omega arith) lt wide) in
    let all : list_all is_ascii_digit (digits n) ≡ true = digits_are (digits n) ∙ digits_decimal own n wide in
    let some : nat_le 1 (length (digits n)) ≡ true = le-leb _ _ (decimal_nonempty n wide) in
    rw (some, short, all, digits_value-decimal own n wide) refl

pub number_back : (n : ℕ) → IsNumber n → GivesBack number (written_number n) (Some n)
number_back n lt = text_again (λ t. or_refused _ (number_of t)) (digits n) n (decimal_nonempty n (omega arith)) (ap (or_refused _) (number_of-digits n lt))

-- ---- moments, spans and decimals

pub moment_back : (m : ℕ) → IsMoment m → GivesBack moment (written_moment m) (Some m)
moment_back m is = text_again (λ t. moment_or (moment_of t)) (moment_text m) m (moment_text_nonempty m) (ap moment_or (moment_of-moment_text m is))

pub some_moment_back : (o : Option ℕ) → IfSome o IsMoment → GivesBack moment (option_and_then written_moment o) o
some_moment_back None is = refl
some_moment_back (Some m) is = moment_back m is

pub span_back : (s : ℤ) → IsSpan s → GivesBack span (written_span s) (Some s)
span_back s is = text_again (λ t. span_or (span_of t)) (span_text s) s (span_text_nonempty s) (ap span_or (span_of-span_text s is))

-- a span that isn't negative
pub non_negative_span_back : (n : ℕ) → IsSpan (pos n) → GivesBack non_negative_span (written_span (pos n)) (Some (pos n))
non_negative_span_back n is = text_again _ (span_text (pos n)) (pos n) (span_text_nonempty (pos n)) (rw (span_of-span_text (pos n) is) refl)

pub decimal_back : (z : ℤ) → IsDecimal z → GivesBack decimal (written_decimal z) (Some z)
decimal_back z is = text_again (λ t. or_refused _ (decimal_of t)) (decimal_text z) z (decimal_text_nonempty z is)
    (ap (or_refused _) (decimal_of-decimal_text z is))

-- ---- objects of a table

pub table_back : {A : Type 0} (rows : Data → Result A Refusal) (ms : Members) (x : A)
    → rows (as_texts (object ms)) ≡ Ok x → GivesBack (table rows) (Some (object ms)) (Some x)
unfolding table object_in
table_back rows ms x is = rw is refl

-- one that need not be there, and has a row
pub table_unless_blank_back : {A : Type 0} (blank : A → Bool) (rows : Data → Result A Refusal) (ms : Members) (x : A)
    → rows (as_texts (object ms)) ≡ Ok x → blank x ≡ false
    → GivesBack (table_unless_blank blank rows) (Some (object ms)) (Some x)
unfolding table_unless_blank
table_unless_blank_back blank rows ms x is shown =
    let required : table rows (as_texts (object ms)) ≡ Ok (Some x) = table_back rows ms x is in
    rw (required, shown) refl
