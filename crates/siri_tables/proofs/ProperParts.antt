-- What is read is proper where the texts of its tree are UTF-8: values, rows and lists.
use Rattle.std.proofs.Common.{◌≡◌, ℕ, zero, suc, ◌+◌, ◌≤◌, Bool, true, false, cond, not, ◌&&◌, nat_le, List, [], ◌∷◌, ◌++◌, length, ℤ}
use Rattle.std.proofs.Common.{Option, Some, None, option_map, Result, Ok, Err, Ordering, Less, Equal, Greater, nat_cmp, refl, sym, subst}
use Rattle.std.proofs.Common.{◌∙◌, arith}
use Rattle.std.specs.Prelude.{IfSome, IsUtf8, ⊤, count_by, option_to_list}
use Rattle.std.specs.List.{list_all, AllByRecursion}
use Rattle.std.specs.Char.{is_ascii_digit}
use Rattle.std.specs.Cmp.Lexicographic.{slice_cmp}
use Rattle.std.specs.Ordering.{match_ordering}
use Rattle.std.specs.Str.{all_ascii_digits}
use Rattle.std.specs.Str.Parse.{digits_value}
use Rattle.std.proofs.lemmas.Bool.{and_parts, leb-true}
use Rattle.std.proofs.lemmas.List.Sums.{sum_by-cons}
use Rattle.std.proofs.lemmas.Str.Parse.{IsNumeralModel, numerals_by_value, tells_all_ascii_digits, digits_value_short}
use Rattle.serde_json.specs.Data.{Data, null, boolean, number as number_data, string, array, object, Items, no_items, item, Members, no_members, member}
use Rattle.serde_json.specs.Find.{get, get_member}
use Rattle.siri_base.specs.declared.reason.Reason.TheVariants.{BadName, BadNumber, BadDecimal, TooMany}
use Rattle.siri_json.specs.Values.{Found, found, absent, wrong, unless_null, member_of, string_found, value_found, single_text, text_in}
use Rattle.siri_json.specs.Values.{object_in, items_list, entries_of}
use Rattle.siri_json.specs.declared.path.Step.{Step}
use Rattle.siri_json.specs.declared.path.Step.TheVariants.{Member, Place}
use Rattle.siri_time.specs.Moment.{moment_of}
use Rattle.siri_time.specs.Span.{span_of}
use Rattle.siri_time.specs.declared.errors.TimeError.{TimeError}
use Rattle.siri_time.specs.declared.errors.TimeError.TheVariants as time
use Rattle.siri_time.specs.declared.errors.SpanError.{SpanError}
use Rattle.siri_time.proofs.Bounds.{moment_of-bound, span_of-bound}
use Rattle.siri_tables.specs.Refusals.{Refusal, ◌>>=◌, refused, below, each}
use Rattle.siri_tables.specs.Rules.{unless_wrong, read_from_text, bounded, moment_or, span_or, or_refused, name, text, moment, span, number}
use Rattle.siri_tables.specs.Rules.{decimal, table, table_unless_blank, unless_blank, maybe, required, row, required_value, inside, is_null}
use Rattle.siri_tables.specs.Rules.{entry_count, entries_from, found_from, at_most, list_of, names_of, or_empty, list, not_empty}
use Rattle.siri_tables.specs.Rules.{nonempty_list, names, list_inside}
use Rattle.siri_base.specs.Numbers.{number_of}
use Rattle.siri_tables.specs.Scalars.{within_degrees, units_of, units_after, magnitude_of, sign_at, signed, decimal_of}
use Rattle.siri_tables.specs.Spelling.{Spells}
use Rattle.siri_tables.specs.Proper.{IsTextWithin, IsName, IsText, IsMoment, IsSpan, IsNumber, IsDecimal, IsListWithin}
use Rattle.siri_json.specs.TextsOfTrees.{TextsAreUtf8, ItemTextsAreUtf8, MemberTextsAreUtf8}
use Rattle.siri_tables.proofs.DecimalRead.{digits_are}

-- P of what was read, where it was
abbrev pub OnRead : {A : Type 0} → Result A Refusal → (A → Type 0) → Type 0
OnRead (Ok x) P = P x
OnRead (Err e) P = ⊤

abbrev pub OnFound : {A : Type 0} → Found A → (A → Type 0) → Type 0
OnFound (found x) P = P x
OnFound absent P = ⊤
OnFound wrong P = ⊤

-- what a rule gives is P
abbrev pub Yields : {A : Type 0} → (Data → Result (Option A) Refusal) → (A → Type 0) → Type 0
Yields rule P = (d : Data) → TextsAreUtf8 d → OnRead (rule d) (λ o. IfSome o P)

pub reads_to : {A : Type 0} (P : A → Type 0) (r : Result A Refusal) → ((x : A) → r ≡ Ok x → P x) → OnRead r P
reads_to P (Ok x) h = h x refl
reads_to P (Err e) h = tt

pub on_ok : {A : Type 0} (P : A → Type 0) (r : Result A Refusal) (x : A) → OnRead r P → r ≡ Ok x → P x
on_ok {A} P r x is e = subst (λ (read : Result A Refusal). OnRead read P) e is

pub on_map : {A : Type 0} (P Q : A → Type 0) (r : Result A Refusal) → OnRead r P → ((x : A) → P x → Q x) → OnRead r Q
on_map P Q (Ok x) is h = h x is
on_map P Q (Err e) is h = tt

pub on_bind : {A B : Type 0} (Q : A → Type 0) (P : B → Type 0) (r : Result A Refusal) (f : A → Result B Refusal)
    → OnRead r Q → ((x : A) → Q x → OnRead (f x) P) → OnRead (r >>= f) P
on_bind Q P (Ok x) f is h = h x is
on_bind Q P (Err e) f is h = tt

pub on_below : {A : Type 0} (P : A → Type 0) (step : Step) (r : Result A Refusal) → OnRead r P → OnRead (below step r) P
on_below P step (Ok x) is = is
on_below P step (Err e) is = tt

-- ---- texts and objects

abbrev IsSomeText : List ℕ → Type 0
IsSomeText t = (1 ≤ length t) × IsUtf8 t

string_is : (s : List ℕ) → IsUtf8 s → OnFound (string_found s) IsSomeText
string_is [] u = tt
string_is (b ∷ bs) u = (omega arith, u)

unless_null_is : (o : Option Data) → IfSome o TextsAreUtf8 → IfSome (unless_null o) TextsAreUtf8
unless_null_is None u = tt
unless_null_is (Some null) u = tt
unless_null_is (Some (boolean b)) u = u
unless_null_is (Some (number_data n)) u = u
unless_null_is (Some (string s)) u = u
unless_null_is (Some (array ds)) u = u
unless_null_is (Some (object ms)) u = u

choice_is : (o : Ordering) (a : Option Data) (e : Data) → IfSome a TextsAreUtf8 → TextsAreUtf8 e → IfSome (match_ordering o a (Some e) a) TextsAreUtf8
choice_is Less a e rest here = rest
choice_is Equal a e rest here = here
choice_is Greater a e rest here = rest

get_member_is : (k : List ℕ) (ms : Members) → MemberTextsAreUtf8 ms → IfSome (get_member k ms) TextsAreUtf8
get_member_is k no_members u = tt
get_member_is k (member l e ms) u = choice_is (slice_cmp nat_cmp k l) (get_member k ms) e (get_member_is k ms u.1) u.0

get_is : (k : List ℕ) (d : Data) → TextsAreUtf8 d → IfSome (get k d) TextsAreUtf8
get_is k null u = tt
get_is k (boolean b) u = tt
get_is k (number_data n) u = tt
get_is k (string s) u = tt
get_is k (array ds) u = tt
get_is k (object ms) u = get_member_is k ms u

pub member_is : (key : List ℕ) (d : Data) → TextsAreUtf8 d → IfSome (member_of key d) TextsAreUtf8
unfolding member_of
member_is key d u = unless_null_is (get key d) (get_is key d u)

value_is : (o : Option Data) → IfSome o TextsAreUtf8 → OnFound (value_found o) IsSomeText
value_is None u = tt
value_is (Some null) u = tt
value_is (Some (boolean b)) u = tt
value_is (Some (number_data n)) u = tt
value_is (Some (string s)) u = string_is s u
value_is (Some (array ds)) u = tt
value_is (Some (object ms)) u = tt

single_is : (d : Data) → TextsAreUtf8 d → OnFound (single_text d) IsSomeText
single_is null u = tt
single_is (boolean b) u = tt
single_is (number_data n) u = tt
single_is (string s) u = string_is s u
single_is (array ds) u = tt
single_is (object ms) u = value_is _ (member_is _ (object ms) u)

text_is : (d : Data) → TextsAreUtf8 d → OnFound (text_in d) IsSomeText
unfolding text_in
text_is null u = tt
text_is (boolean b) u = tt
text_is (number_data n) u = tt
text_is (string s) u = single_is (string s) u
text_is (array no_items) u = tt
text_is (array (item d ds)) u = single_is d u.0
text_is (object ms) u = single_is (object ms) u

pub object_is : (d : Data) → TextsAreUtf8 d → OnFound (object_in d) TextsAreUtf8
unfolding object_in
object_is null u = tt
object_is (boolean b) u = tt
object_is (number_data n) u = tt
object_is (string s) u = tt
object_is (array no_items) u = tt
object_is (array (item null ds)) u = tt
object_is (array (item (boolean b) ds)) u = tt
object_is (array (item (number_data n) ds)) u = tt
object_is (array (item (string s) ds)) u = tt
object_is (array (item (array es) ds)) u = tt
object_is (array (item (object ms) ds)) u = u.0
object_is (object ms) u = u

-- ---- rules of texts

some_read : {A : Type 0} (P : A → Type 0) (r : Result A Refusal) → OnRead r P → OnRead (r >>= λ y. Ok (Some y)) (λ o. IfSome o P)
some_read P (Ok x) is = is
some_read P (Err e) is = tt

found_read : {A B : Type 0} (Q : B → Type 0) (P : A → Type 0) (read : B → Result A Refusal) (f : Found B) → ((x : B) → Q x → OnRead (read x) P) → OnFound f Q
    → OnRead (unless_wrong f >>= each read) (λ o. IfSome o P)
found_read Q P read (found x) h is = some_read P (read x) (h x is)
found_read Q P read absent h is = tt
found_read Q P read wrong h is = tt

read_from_text_yields : {A : Type 0} (P : A → Type 0) (read : List ℕ → Result A Refusal)
    → ((t : List ℕ) → IsSomeText t → OnRead (read t) P) → Yields (read_from_text read) P
unfolding read_from_text
read_from_text_yields P read h = λ d u. found_read IsSomeText P read (text_in d) h (text_is d u)

bounded_by : (most : ℕ) (t : List ℕ) (b : Bool) → nat_le (length t) most ≡ b → IsSomeText t → OnRead (cond b (Ok t) (refused BadName)) (IsTextWithin most)
bounded_by most t true fits is = record { some = is.0; bound = leb-true _ _ fits; utf8 = is.1 }
bounded_by most t false fits is = tt

bounded_is : (most : ℕ) (t : List ℕ) → IsSomeText t → OnRead (bounded most t) (IsTextWithin most)
bounded_is most t is = bounded_by most t (nat_le (length t) most) refl is

pub name_yields : Yields name IsName
name_yields = read_from_text_yields (IsTextWithin 255) (bounded 255) (bounded_is 255)

pub text_yields : Yields text IsText
text_yields = read_from_text_yields (IsTextWithin 16384) (bounded 16384) (bounded_is 16384)

moment_by : (r : Result ℕ TimeError) → ((m : ℕ) → r ≡ Ok m → IsMoment m) → OnRead (moment_or r) IsMoment
moment_by (Ok m) h = h m refl
moment_by (Err time.BadTime) h = tt
moment_by (Err time.NoOffset) h = tt

pub moment_yields : Yields moment IsMoment
moment_yields = read_from_text_yields IsMoment (λ t. moment_or (moment_of t)) (λ t is. moment_by (moment_of t) (moment_of-bound t))

span_by : (r : Result ℤ SpanError) → ((s : ℤ) → r ≡ Ok s → IsSpan s) → OnRead (span_or r) IsSpan
span_by (Ok s) h = h s refl
span_by (Err e) h = tt

pub span_yields : Yields span IsSpan
span_yields = read_from_text_yields IsSpan (λ t. span_or (span_of t)) (λ t is. span_by (span_of t) (span_of-bound t))

own : IsNumeralModel (λ ds. all_ascii_digits ds ≡ true) (digits_value 10)
own = numerals_by_value _ tells_all_ascii_digits

number_by : (t : List ℕ) (b : Bool) → nat_le 1 (length t) && (nat_le (length t) 18 && list_all is_ascii_digit t) ≡ b
    → OnRead (or_refused BadNumber (cond b (Some (digits_value 10 t)) None)) IsNumber
number_by t true passes =
    let all_parts = and_parts (nat_le 1 (length t)) (nat_le (length t) 18 && list_all is_ascii_digit t) passes in
    let parts = and_parts (nat_le (length t) 18) (list_all is_ascii_digit t) all_parts.1 in
    let all : all_ascii_digits t ≡ true = sym (digits_are t) ∙ parts.1 in
    digits_value_short own t 18 all (leb-true _ _ parts.0)
number_by t false passes = tt

number_is : (t : List ℕ) → OnRead (or_refused BadNumber (number_of t)) IsNumber
unfolding number_of
number_is t = number_by t (nat_le 1 (length t) && (nat_le (length t) 18 && list_all is_ascii_digit t)) refl

pub number_yields : Yields number IsNumber
number_yields = read_from_text_yields IsNumber (λ t. or_refused BadNumber (number_of t)) (λ t is. number_is t)

-- ---- decimals

abbrev IsSmall : ℕ → Type 0
IsSmall units = units ≤ 1800000000

within_by : (units : ℕ) (b : Bool) → nat_le units 1800000000 ≡ b → IfSome (cond b (Some units) None) IsSmall
within_by units true fits = leb-true _ _ fits
within_by units false fits = tt

within_is : (units : ℕ) → IfSome (within_degrees units) IsSmall
within_is units = within_by units (nat_le units 1800000000) refl

units_of_is : (whole fraction : List ℕ) → IfSome (units_of whole fraction) IsSmall
units_of_is whole fraction = within_is _

if_is : (b : Bool) (o : Option ℕ) → IfSome o IsSmall → IfSome (cond b o None) IsSmall
if_is true o is = is
if_is false o is = tt

units_after_is : (whole rest : List ℕ) → IfSome (units_after whole rest) IsSmall
unfolding units_after
units_after_is [] [] = tt
units_after_is (digit ∷ digits) [] = units_of_is (digit ∷ digits) []
units_after_is [] (first ∷ fraction) = if_is _ (units_of [] fraction) (units_of_is [] fraction)
units_after_is (digit ∷ digits) (first ∷ fraction) = if_is _ (units_of (digit ∷ digits) fraction) (units_of_is (digit ∷ digits) fraction)

magnitude_is : (t : List ℕ) → IfSome (magnitude_of t) IsSmall
unfolding magnitude_of
magnitude_is t = units_after_is _ _

signed_is : (negative : Bool) (units : ℕ) → IsSmall units → IsDecimal (signed negative units)
signed_is true zero small = omega arith
signed_is true (suc n) small = omega (arith, small)
signed_is false units small = omega (arith, small)

signed_by : (negative : Bool) (o : Option ℕ) → IfSome o IsSmall → OnRead (or_refused BadDecimal (option_map (signed negative) o)) IsDecimal
signed_by negative None small = tt
signed_by negative (Some units) small = signed_is negative units small

long_by : (b : Bool) (o : Option ℤ) → OnRead (or_refused BadDecimal o) IsDecimal → OnRead (or_refused BadDecimal (cond b None o)) IsDecimal
long_by true o is = tt
long_by false o is = is

decimal_is : (t : List ℕ) → OnRead (or_refused BadDecimal (decimal_of t)) IsDecimal
unfolding decimal_of
decimal_is t = long_by _ (option_map (signed (sign_at t).0) (magnitude_of (sign_at t).1))
    (signed_by (sign_at t).0 (magnitude_of (sign_at t).1) (magnitude_is (sign_at t).1))

pub decimal_yields : Yields decimal IsDecimal
decimal_yields = read_from_text_yields IsDecimal (λ t. or_refused BadDecimal (decimal_of t)) (λ t is. decimal_is t)

-- ---- objects

pub table_yields : {A : Type 0} (rows : Data → Result A Refusal) (P : A → Type 0) → ((d : Data) → TextsAreUtf8 d → OnRead (rows d) P) → Yields (table rows) P
unfolding table
table_yields rows P h = λ d u. found_read TextsAreUtf8 P rows (object_in d) h (object_is d u)

shown_by : {A : Type 0} (blank : A → Bool) (P : A → Type 0) (x : A) (b : Bool) → blank x ≡ b → P x
    → IfSome (cond b None (Some x)) (λ y. P y × (blank y ≡ false))
shown_by blank P x true is h = tt
shown_by blank P x false is h = (h, is)

blank_read : {A : Type 0} (blank : A → Bool) (P : A → Type 0) (r : Result (Option A) Refusal) → OnRead r (λ o. IfSome o P)
    → OnRead (r >>= λ o. Ok (unless_blank blank o)) (λ o. IfSome o (λ x. P x × (blank x ≡ false)))
blank_read blank P (Ok None) is = tt
blank_read blank P (Ok (Some x)) is = shown_by blank P x (blank x) refl is
blank_read blank P (Err e) is = tt

pub table_unless_blank_yields : {A : Type 0} (blank : A → Bool) (rows : Data → Result A Refusal) (P : A → Type 0)
    → ((d : Data) → TextsAreUtf8 d → OnRead (rows d) P)
    → Yields (table_unless_blank blank rows) (λ x. P x × (blank x ≡ false))
unfolding table_unless_blank
table_unless_blank_yields blank rows P h = λ d u. blank_read blank P (table rows d) (table_yields rows P h d u)

-- ---- rows

maybe_on : {A : Type 0} (rule : Data → Result (Option A) Refusal) (P : A → Type 0) → Yields rule P → (o : Option Data)
    → IfSome o TextsAreUtf8 → OnRead (maybe rule o) (λ value. IfSome value P)
maybe_on rule P y None u = tt
maybe_on rule P y (Some d) u = y d u

pub row_on : {A : Type 0} (rule : Data → Result (Option A) Refusal) (P : A → Type 0) → Yields rule P
    → (key : List ℕ) (d : Data) → TextsAreUtf8 d → OnRead (row rule key d) (λ value. IfSome value P)
unfolding row
row_on rule P y key d u = on_below (λ value. IfSome value P) (Member key) _ (maybe_on rule P y (member_of key d) (member_is key d u))

-- a row that is spelled
pub row_is : {A : Type 0} (rule : Data → Result (Option A) Refusal) (P : A → Type 0) → Yields rule P
    → (key : List ℕ) (d : Data) (value : Option A) → TextsAreUtf8 d → Spells rule key d value → IfSome value P
row_is rule P y key d value u spells = on_ok (λ v. IfSome v P) (maybe rule (member_of key d)) value
    (maybe_on rule P y (member_of key d) (member_is key d u)) spells

pub required_on : {A : Type 0} (P : A → Type 0) (path : List Step) (o : Option A) → IfSome o P → OnRead (required path o) P
required_on P path None is = tt
required_on P path (Some x) is = is

pub required_value_on : {A : Type 0} (rule : Data → Result (Option A) Refusal) (P : A → Type 0) → Yields rule P
    → (d : Data) → TextsAreUtf8 d → OnRead (required_value rule d) P
unfolding required_value
required_value_on rule P y d u = on_bind (λ o. IfSome o P) P (rule d) (required []) (y d u) (λ o is. required_on P [] o is)

found_maybe : {A : Type 0} (P : A → Type 0) (rule : Data → Result (Option A) Refusal) (f : Found Data)
    → ((d : Data) → TextsAreUtf8 d → OnRead (rule d) (λ o. IfSome o P)) → OnFound f TextsAreUtf8
    → OnRead (unless_wrong f >>= maybe rule) (λ o. IfSome o P)
found_maybe P rule (found d) h is = h d is
found_maybe P rule absent h is = tt
found_maybe P rule wrong h is = tt

-- a rule of the members of an object that a value stands for
pub inside_on : {A : Type 0} (P : A → Type 0) (rule : Data → Result (Option A) Refusal) → Yields rule P → (d : Data)
    → TextsAreUtf8 d → OnRead (unless_wrong (object_in d) >>= maybe rule) (λ o. IfSome o P)
inside_on P rule y d u = found_maybe P rule (object_in d) y (object_is d u)

inside_name : (inner : List ℕ) → Yields (inside name inner) IsName
unfolding inside
inside_name inner = λ d u. inside_on IsName (row name inner) (λ e v. row_on name IsName name_yields inner e v) d u

-- ---- entries

abbrev filled : List Data → ℕ
filled ds = count_by (λ e. not (is_null e)) ds

-- what was read of entries: each is P, and there are no more than entries that aren't null
pub record AreRead {A : Type 0} (P : A → Type 0) (ds : List Data) (xs : List A) : Type 0 where
  pub each : AllByRecursion P xs
  pub few : length xs ≤ filled ds

filled_cons : (d : Data) (ds : List Data) → filled (d ∷ ds) ≡ cond (not (is_null d)) 1 0 + filled ds
filled_cons d ds = sum_by-cons (λ e. cond (not (is_null e)) 1 0) d ds

more : {A : Type 0} (P : A → Type 0) (d : Data) (ds : List Data) (xs : List A) → AreRead P ds xs → AreRead P (d ∷ ds) xs
more P d ds xs is = record { each = is.each; few = omega (arith, is.few, filled_cons d ds) }

one_more : {A : Type 0} (P : A → Type 0) (d : Data) (ds : List Data) (x : A) (xs : List A) → is_null d ≡ false → P x
    → AreRead P ds xs → AreRead P (d ∷ ds) (x ∷ xs)
one_more P d ds x xs required h is =
    let counted : filled (d ∷ ds) ≡ 1 + filled ds = filled_cons d ds ∙ rw required refl in
    record { each = (h, is.each); few = omega (arith, is.few, counted) }

entries_by : {A : Type 0} (rule : Data → Result (Option A) Refusal) (P : A → Type 0) (place : ℕ) (d : Data)
    (ds : List Data) (b : Bool) → is_null d ≡ b → OnRead (required_value rule d) P
    → OnRead (entries_from rule (place + 1) ds) (AreRead P ds)
    → OnRead (cond b (entries_from rule (place + 1) ds)
    (below (Place place) (required_value rule d) >>= λ first. entries_from rule (place + 1) ds >>= λ others.
    Ok (first ∷ others))) (AreRead P (d ∷ ds))
entries_by rule P place d ds true required first rest = on_map (AreRead P ds) (AreRead P (d ∷ ds)) _ rest (more P d ds)
entries_by rule P place d ds false required first rest =
    on_bind P (AreRead P (d ∷ ds)) (below (Place place) (required_value rule d)) _ (on_below P (Place place) (required_value rule d) first)
    (λ x h. on_bind (AreRead P ds) (AreRead P (d ∷ ds)) (entries_from rule (place + 1) ds) _ rest (λ xs is. one_more P d ds x xs required h is))

entries_on : {A : Type 0} (rule : Data → Result (Option A) Refusal) (P : A → Type 0) → Yields rule P
    → (place : ℕ) (ds : List Data) → AllByRecursion TextsAreUtf8 ds → OnRead (entries_from rule place ds) (AreRead P ds)
unfolding entries_from
entries_on rule P y place [] u = record { each = tt; few = omega arith }
entries_on rule P y place (d ∷ ds) u = entries_by rule P place d ds (is_null d) refl (required_value_on rule P y d u.0) (entries_on rule P y (place + 1) ds u.1)

maybe_more : {A : Type 0} (P : A → Type 0) (d : Data) (ds : List Data) (o : Option A) (xs : List A) → is_null d ≡ false
    → IfSome o P → AreRead P ds xs → AreRead P (d ∷ ds) (option_to_list o ++ xs)
maybe_more P d ds None xs required h is = more P d ds xs is
maybe_more P d ds (Some x) xs required h is = one_more P d ds x xs required h is

found_by : {A : Type 0} (rule : Data → Result (Option A) Refusal) (P : A → Type 0) (place : ℕ) (d : Data)
    (ds : List Data) (b : Bool) → is_null d ≡ b → OnRead (rule d) (λ o. IfSome o P)
    → OnRead (found_from rule (place + 1) ds) (AreRead P ds)
    → OnRead (cond b (found_from rule (place + 1) ds)
    (below (Place place) (rule d) >>= λ first. found_from rule (place + 1) ds >>= λ others.
    Ok (option_to_list first ++ others))) (AreRead P (d ∷ ds))
found_by rule P place d ds true required first rest = on_map (AreRead P ds) (AreRead P (d ∷ ds)) _ rest (more P d ds)
found_by rule P place d ds false required first rest =
    on_bind (λ o. IfSome o P) (AreRead P (d ∷ ds)) (below (Place place) (rule d)) _ (on_below (λ o. IfSome o P) (Place place) (rule d) first)
    (λ o h. on_bind (AreRead P ds) (AreRead P (d ∷ ds)) (found_from rule (place + 1) ds) _ rest (λ xs is. maybe_more P d ds o xs required h is))

found_on : {A : Type 0} (rule : Data → Result (Option A) Refusal) (P : A → Type 0) → Yields rule P
    → (place : ℕ) (ds : List Data) → AllByRecursion TextsAreUtf8 ds → OnRead (found_from rule place ds) (AreRead P ds)
unfolding found_from
found_on rule P y place [] u = record { each = tt; few = omega arith }
found_on rule P y place (d ∷ ds) u = found_by rule P place d ds (is_null d) refl (y d u.0) (found_on rule P y (place + 1) ds u.1)

-- ---- lists

items_are : (ds : Items) → ItemTextsAreUtf8 ds → AllByRecursion TextsAreUtf8 (items_list ds)
items_are no_items u = tt
items_are (item d ds) u = (u.0, items_are ds u.1)

entries_are : (d : Data) → TextsAreUtf8 d → AllByRecursion TextsAreUtf8 (entries_of d)
unfolding entries_of
entries_are null u = (u, tt)
entries_are (boolean b) u = (u, tt)
entries_are (number_data n) u = (u, tt)
entries_are (string s) u = (u, tt)
entries_are (array ds) u = items_are ds u
entries_are (object ms) u = (u, tt)

pub list_of_on : {A : Type 0} (rule : Data → Result (Option A) Refusal) (P : A → Type 0) → Yields rule P → (d : Data)
    → TextsAreUtf8 d → OnRead (list_of rule d) (AreRead P (entries_of d))
unfolding list_of
list_of_on rule P y d u = entries_on rule P y 0 (entries_of d) (entries_are d u)

pub names_of_on : (inner : List ℕ) (d : Data) → TextsAreUtf8 d → OnRead (names_of inner d) (AreRead IsName (entries_of d))
unfolding names_of
names_of_on inner d u = found_on (inside name inner) IsName (inside_name inner) 0 (entries_of d) (entries_are d u)

few_by : {A : Type 0} (P : A → Type 0) (most : ℕ) (read : Data → Result (List A) Refusal) (d : Data) (b : Bool)
    → nat_le (entry_count d) most ≡ b → OnRead (read d) (AreRead P (entries_of d))
    → OnRead (cond b (read d) (refused TooMany)) (IsListWithin most P)
few_by P most read d true fits is =
    let le : filled (entries_of d) ≤ most = leb-true (entry_count d) most fits in
    on_map (AreRead P (entries_of d)) (IsListWithin most P) (read d) is (λ xs all. record { bound = omega (arith, le, all.few); each = all.each })
few_by P most read d false fits is = tt

none_within : {A : Type 0} (P : A → Type 0) (most : ℕ) → IsListWithin most P []
none_within P most = record { bound = omega arith; each = tt }

or_empty_on : {A : Type 0} (L : List A → Type 0) (read : Data → Result (List A) Refusal) → L []
    → ((d : Data) → TextsAreUtf8 d → OnRead (read d) L) → (o : Option Data) → IfSome o TextsAreUtf8
    → OnRead (or_empty read o) L
or_empty_on L read none h None u = none
or_empty_on L read none h (Some d) u = h d u

-- what is read of the value at a name
pub at_name : {A : Type 0} (L : List A → Type 0) (read : Data → Result (List A) Refusal) → L []
    → ((d : Data) → TextsAreUtf8 d → OnRead (read d) L) → (key : List ℕ) (d : Data) → TextsAreUtf8 d
    → OnRead (below (Member key) (or_empty read (member_of key d))) L
at_name L read none h key d u = on_below L (Member key) _ (or_empty_on L read none h (member_of key d) (member_is key d u))

pub list_on : {A : Type 0} (rule : Data → Result (Option A) Refusal) (P : A → Type 0) → Yields rule P
    → (most : ℕ) (key : List ℕ) (d : Data) → TextsAreUtf8 d → OnRead (list rule most key d) (IsListWithin most P)
unfolding list
list_on rule P y most key d u =
    at_name (IsListWithin most P) (at_most most (list_of rule)) (none_within P most)
    (λ e v. few_by P most (list_of rule) e (nat_le (entry_count e) most) refl (list_of_on rule P y e v)) key d u

pub names_on : (inner : List ℕ) (most : ℕ) (key : List ℕ) (d : Data) → TextsAreUtf8 d → OnRead (names inner most key d) (IsListWithin most IsName)
unfolding names
names_on inner most key d u =
    at_name (IsListWithin most IsName) (at_most most (names_of inner)) (none_within IsName most)
    (λ e v. few_by IsName most (names_of inner) e (nat_le (entry_count e) most) refl (names_of_on inner e v)) key d
    u

not_empty_on : {A : Type 0} (L : List A → Type 0) (key : List ℕ) (xs : List A) → L xs → OnRead (not_empty key xs) (λ ys. L ys × (1 ≤ length ys))
not_empty_on L key [] is = tt
not_empty_on L key (x ∷ xs) is = (is, omega arith)

pub nonempty_list_on : {A : Type 0} (rule : Data → Result (Option A) Refusal) (P : A → Type 0) → Yields rule P
    → (most : ℕ) (key : List ℕ) (d : Data) → TextsAreUtf8 d
    → OnRead (nonempty_list rule most key d) (λ xs. IsListWithin most P xs × (1 ≤ length xs))
unfolding nonempty_list
nonempty_list_on rule P y most key d u =
    on_bind (IsListWithin most P) (λ xs. IsListWithin most P xs × (1 ≤ length xs)) (list rule most key d)
    (not_empty key) (list_on rule P y most key d u) (λ xs is. not_empty_on (IsListWithin most P) key xs is)

found_list : {A : Type 0} (L : List A → Type 0) (read : Data → Result (List A) Refusal) → L []
    → ((d : Data) → TextsAreUtf8 d → OnRead (read d) L) → (f : Found Data) → OnFound f TextsAreUtf8
    → OnRead (unless_wrong f >>= or_empty read) L
found_list L read none h (found d) u = h d u
found_list L read none h absent u = none
found_list L read none h wrong u = tt

inner_list : {A : Type 0} (L : List A → Type 0) (read : Data → Result (List A) Refusal) → L []
    → ((d : Data) → TextsAreUtf8 d → OnRead (read d) L) → (o : Option Data) → IfSome o TextsAreUtf8
    → OnRead (maybe (λ v. unless_wrong (object_in v)) o >>= or_empty read) L
inner_list L read none h None u = none
inner_list L read none h (Some v) u = found_list L read none h (object_in v) (object_is v u)

pub list_inside_on : {A : Type 0} (L : List A → Type 0) (read : Data → Result (List A) Refusal) → L []
    → ((d : Data) → TextsAreUtf8 d → OnRead (read d) L) → (outer : List ℕ) (d : Data) → TextsAreUtf8 d
    → OnRead (list_inside outer read d) L
unfolding list_inside
list_inside_on L read none h outer d u = on_below L (Member outer) _ (inner_list L read none h (member_of outer d) (member_is outer d u))

pub lists_inside_on : {A : Type 0} (rule : Data → Result (Option A) Refusal) (P : A → Type 0) → Yields rule P
    → (most : ℕ) (outer key : List ℕ) (d : Data) → TextsAreUtf8 d
    → OnRead (list_inside outer (list rule most key) d) (IsListWithin most P)
lists_inside_on rule P y most outer key d u = list_inside_on (IsListWithin most P) (list rule most key)
    (none_within P most) (λ e v. list_on rule P y most key e v) outer d u

pub names_inside_on : (inner : List ℕ) (most : ℕ) (outer key : List ℕ) (d : Data) → TextsAreUtf8 d
    → OnRead (list_inside outer (names inner most key) d) (IsListWithin most IsName)
names_inside_on inner most outer key d u = list_inside_on (IsListWithin most IsName) (names inner most key)
    (none_within IsName most) (λ e v. names_on inner most key e v) outer d u
