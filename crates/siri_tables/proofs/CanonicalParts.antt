-- What is written is canonical and not deep: values, rows and lists.
use Rattle.std.proofs.Common.{◌≡◌, ℕ, suc, ◌≤◌, true, List, [], ◌∷◌, ℤ, Option, Some, None, Ordering, Less, Equal, Greater, arith}
use Rattle.std.specs.Prelude.{IfSome, Bool, nat_lt, IsUtf8, IsAscii, option_and_then}
use Rattle.std.specs.List.{filter_map, cons_option, list_all, AllByRecursion}
use Rattle.std.specs.Ordering.{nat_cmp, match_ordering}
use Rattle.std.specs.Cmp.Lexicographic.{slice_cmp}
use Rattle.std.proofs.lemmas.Bool.{and_parts, ltb-true}
use Rattle.std.proofs.lemmas.Str.{IsUtf8-from_ascii}
use Rattle.std.proofs.lemmas.Str.Ascii.{IsAscii-nil, IsAscii-cons}
use Rattle.serde_json.specs.Data.{Data, object, Items, Members, no_members, member as one_member, put, depth, items_depth, members_depth}
use Rattle.serde_json.specs.View.{items_of}
use Rattle.siri_json.specs.Canonical.{IsCanonical, ItemsAreCanonical}
use Rattle.siri_json.proofs.Order.{canonical_put}
use Rattle.siri_time.proofs.Ascii.{IsAscii-moment_text, IsAscii-span_text}
use Rattle.siri_time.specs.MomentText.{moment_text}
use Rattle.siri_time.specs.SpanText.{span_text}
use Rattle.siri_tables.specs.Writing.{Row, put_row, with_rows, row_object, object_unless_empty, array_unless_empty, written_list}
use Rattle.siri_tables.specs.Writing.{written_text, written_flag, written_number, written_moment, written_span, written_decimal}
use Rattle.siri_tables.specs.Writing.{decimal_text}
use Rattle.siri_tables.specs.Proper.{IsTextWithin, IsMoment, IsSpan, IsNumber, IsDecimal}
use Rattle.siri_tables.proofs.Ascii.{IsAscii-decimal_text}

-- a canonical tree of at most so many lists and objects inside one another
pub record IsCanonicalWithin (most : ℕ) (d : Data) : Type 0 where
  pub canonical : IsCanonical d
  pub shallow : depth d ≤ most

-- the same, where it is written at all
abbrev pub MayBeWithin : ℕ → Option Data → Type 0
MayBeWithin most written = IfSome written (IsCanonicalWithin most)

-- what isn't deep isn't deeper
pub deeper : (least most : ℕ) (written : Option Data) → least ≤ most → MayBeWithin least written → MayBeWithin most written
deeper least most None le is = tt
deeper least most (Some d) le is = record { canonical = is.canonical; shallow = omega (arith, le, is.shallow) }

-- ---- values

pub text_within : (most : ℕ) (t : List ℕ) → IsUtf8 t → MayBeWithin most (written_text t)
text_within most t is = record { canonical = is; shallow = omega arith }

pub some_text_within : (most bound : ℕ) (o : Option (List ℕ)) → IfSome o (IsTextWithin bound) → MayBeWithin most (option_and_then written_text o)
some_text_within most bound None is = tt
some_text_within most bound (Some t) is = text_within most t is.utf8

pub some_flag_within : (most : ℕ) (o : Option Bool) → MayBeWithin most (option_and_then written_flag o)
some_flag_within most None = tt
some_flag_within most (Some b) = record { canonical = tt; shallow = omega arith }

pub number_within : (most n : ℕ) → IsNumber n → MayBeWithin most (written_number n)
number_within most n is = record { canonical = omega (arith, is); shallow = omega arith }

pub some_number_within : (most : ℕ) (o : Option ℕ) → IfSome o IsNumber → MayBeWithin most (option_and_then written_number o)
some_number_within most None is = tt
some_number_within most (Some n) is = number_within most n is

pub moment_within : (most m : ℕ) → IsMoment m → MayBeWithin most (written_moment m)
moment_within most m is = text_within most (moment_text m) (IsUtf8-from_ascii (moment_text m) (IsAscii-moment_text m is))

pub some_moment_within : (most : ℕ) (o : Option ℕ) → IfSome o IsMoment → MayBeWithin most (option_and_then written_moment o)
some_moment_within most None is = tt
some_moment_within most (Some m) is = moment_within most m is

pub span_within : (most : ℕ) (s : ℤ) → IsSpan s → MayBeWithin most (written_span s)
span_within most s is = text_within most (span_text s) (IsUtf8-from_ascii (span_text s) (IsAscii-span_text s is))

pub some_span_within : (most : ℕ) (o : Option ℤ) → IfSome o IsSpan → MayBeWithin most (option_and_then written_span o)
some_span_within most None is = tt
some_span_within most (Some s) is = span_within most s is

pub decimal_within : (most : ℕ) (z : ℤ) → IsDecimal z → MayBeWithin most (written_decimal z)
decimal_within most z is = text_within most (decimal_text z) (IsUtf8-from_ascii (decimal_text z) (IsAscii-decimal_text z (omega (arith, is))))

-- ---- objects

depth_put_at : (most : ℕ) (k l : List ℕ) (d e : Data) (ms : Members) (o : Ordering) → depth d ≤ most
    → members_depth (one_member l e ms) ≤ most → members_depth (put k d ms) ≤ most
    → members_depth (match_ordering o (one_member k d (one_member l e ms)) (one_member l d ms) (one_member l e (put k d ms))) ≤ most
depth_put_at most k l d e ms Less new old later = omega (arith, new, old)
depth_put_at most k l d e ms Equal new old later = omega (arith, new, old)
depth_put_at most k l d e ms Greater new old later = omega (arith, old, later)

rest_depth : (most : ℕ) (l : List ℕ) (e : Data) (ms : Members) → members_depth (one_member l e ms) ≤ most → members_depth ms ≤ most
rest_depth most l e ms old = omega (arith, old)

depth_put : (most : ℕ) (k : List ℕ) (d : Data) (ms : Members) → depth d ≤ most → members_depth ms ≤ most → members_depth (put k d ms) ≤ most
depth_put most k d no_members new old = omega (arith, new)
depth_put most k d (one_member l e ms) new old = depth_put_at most k l d e ms (slice_cmp nat_cmp k l) new old
    (depth_put most k d ms new (rest_depth most l e ms old))

-- each byte is below 128, as a test that computes
abbrev pub are_ascii : List ℕ → Bool
are_ascii text = list_all (λ b. nat_lt b 128) text

ascii : (text : List ℕ) → are_ascii text ≡ true → IsAscii text
ascii [] is = IsAscii-nil
ascii (b ∷ bs) is =
    let parts = and_parts (nat_lt b 128) (are_ascii bs) is in
    IsAscii-cons b bs (ltb-true _ _ parts.0) (ascii bs parts.1)

-- a row of an ASCII name, whose value is canonical and not deep
pub record IsRowWithin (most : ℕ) (r : Row) : Type 0 where
  pub name : IsUtf8 r.0
  pub value : MayBeWithin most r.1

pub row_within : (most : ℕ) (key : List ℕ) (written : Option Data) → are_ascii key ≡ true → MayBeWithin most written → IsRowWithin most (key, written)
row_within most key written key_is is = record { name = IsUtf8-from_ascii key (ascii key key_is); value = is }

-- a row, and the rows behind it
infixr 5 ◌then◌
pub ◌then◌ : {A B : Type 0} → A → B → A × B
row then rows = (row, rows)

put_row_within : (most : ℕ) (k : List ℕ) (o : Option Data) (ms : Members) → IsUtf8 k → MayBeWithin most o
    → IsCanonicalWithin (suc most) (object ms) → IsCanonicalWithin (suc most) (object (put_row k o ms))
put_row_within most k None ms text is before = before
put_row_within most k (Some d) ms text is before =
    record {
      canonical = canonical_put k d ms text is.canonical before.canonical;
      shallow = omega (arith, depth_put most k d ms is.shallow (omega (arith, before.shallow)));
    }

pub rows_within : (most : ℕ) (ms : Members) (rs : List Row) → AllByRecursion (IsRowWithin most) rs
    → IsCanonicalWithin (suc most) (object ms) → IsCanonicalWithin (suc most) (object (with_rows ms rs))
rows_within most ms [] all before = before
rows_within most ms (r ∷ rs) all before = rows_within most (put_row r.0 r.1 ms) rs all.1 (put_row_within most r.0 r.1 ms all.0.name all.0.value before)

-- an object of rows
pub object_within : (most : ℕ) (rs : List Row) → AllByRecursion (IsRowWithin most) rs → IsCanonicalWithin (suc most) (row_object rs)
object_within most rs all = rows_within most no_members rs all (record { canonical = (tt, tt); shallow = omega arith })

-- one that isn't written where it would be empty
pub object_unless_empty_within : (most : ℕ) (ms : Members) → IsCanonicalWithin most (object ms) → MayBeWithin most (object_unless_empty ms)
object_unless_empty_within most no_members is = tt
object_unless_empty_within most (one_member k d ms) is = is

-- ---- lists

pub record AreCanonicalWithin (most : ℕ) (ds : Items) : Type 0 where
  pub canonical : ItemsAreCanonical ds
  pub shallow : items_depth ds ≤ most

cons_within : (most : ℕ) (o : Option Data) (ds : List Data) → MayBeWithin most o → AreCanonicalWithin most (items_of ds)
    → AreCanonicalWithin most (items_of (cons_option o ds))
cons_within most None ds is all = all
cons_within most (Some d) ds is all = record { canonical = (is.canonical, all.canonical); shallow = omega (arith, is.shallow, all.shallow) }

pub entries_within : {A : Type 0} (most : ℕ) (writing : A → Option Data) (xs : List A)
    → AllByRecursion (λ x. MayBeWithin most (writing x)) xs → AreCanonicalWithin most (items_of (filter_map writing xs))
entries_within most writing [] all = record { canonical = tt; shallow = omega arith }
entries_within most writing (x ∷ xs) all = cons_within most (writing x) (filter_map writing xs) all.0 (entries_within most writing xs all.1)

pub array_unless_empty_within : (most : ℕ) (ds : List Data) → AreCanonicalWithin most (items_of ds) → MayBeWithin (suc most) (array_unless_empty ds)
array_unless_empty_within most [] is = tt
array_unless_empty_within most (d ∷ ds) is = record { canonical = is.canonical; shallow = omega (arith, is.shallow) }

pub list_within : {A : Type 0} (most : ℕ) (writing : A → Option Data) (xs : List A)
    → AllByRecursion (λ x. MayBeWithin most (writing x)) xs → MayBeWithin (suc most) (written_list writing xs)
unfolding written_list
list_within most writing xs all = array_unless_empty_within most (filter_map writing xs) (entries_within most writing xs all)
