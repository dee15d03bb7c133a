-- How values and rows are written: each in one form. What is left out has none.
use Rattle.std.specs.Prelude.{ℕ, suc, ◌+◌, ◌-◌, ◌/◌, ◌%◌, ◌==◌, if◌then◌else◌, ℤ, pos, negsuc, List, [], ◌∷◌, ◌++◌, take, Option, Some, None, Bool}
use Rattle.std.specs.List.{filter_map, suffix_len}
use Rattle.std.specs.Fmt.{decimal}
use Rattle.serde_json.specs.View.{items_of}
use Rattle.serde_json.specs.Data.{Data, array, object, string, boolean, number, unsigned, Members, no_members, member, put}
use Rattle.siri_time.specs.MomentText.{moment_text}
use Rattle.siri_time.specs.SpanText.{span_text}

-- ---- rows

-- a member of a name, where it is written
abbrev pub Row : Type 0
Row = List ℕ × Option Data

abbrev pub put_row : List ℕ → Option Data → Members → Members
put_row key None ms = ms
put_row key (Some d) ms = put key d ms

-- the members, and then those of the rows
abbrev pub with_rows : Members → List Row → Members
with_rows ms [] = ms
with_rows ms (r ∷ rs) = with_rows (put_row r.0 r.1 ms) rs

-- an object of these rows
abbrev pub row_object : List Row → Data
row_object rs = object (with_rows no_members rs)

-- an object that would be empty isn't written
abbrev pub object_unless_empty : Members → Option Data
object_unless_empty no_members = None
object_unless_empty (member k d ms) = Some (object (member k d ms))

-- a list that would be empty isn't written
abbrev pub array_unless_empty : List Data → Option Data
array_unless_empty [] = None
array_unless_empty (d ∷ ds) = Some (array (items_of (d ∷ ds)))

unfoldable pub written_list : {A : Type 0} → (A → Option Data) → List A → Option Data
written_list writing xs = array_unless_empty (filter_map writing xs)

-- ---- values

abbrev pub written_text : List ℕ → Option Data
written_text t = Some (string t)

abbrev pub written_flag : Bool → Option Data
written_flag b = Some (boolean b)

abbrev pub written_number : ℕ → Option Data
written_number n = Some (number (unsigned n))

abbrev pub written_moment : ℕ → Option Data
written_moment m = Some (string (moment_text m))

abbrev pub written_span : ℤ → Option Data
written_span s = Some (string (span_text s))

-- the seven digits of a fraction
abbrev pub seven_wide : ℕ → List ℕ
seven_wide f =
    (48 + f / 1000000) ∷ (48 + f / 100000 % 10) ∷ (48 + f / 10000 % 10) ∷ (48 + f / 1000 % 10) ∷ (48 + f / 100 % 10) ∷ (48 + f / 10 % 10) ∷ (48 + f % 10) ∷ []

-- digits without the zeros at their end
abbrev pub without_zeros : List ℕ → List ℕ
without_zeros digits = take (7 - suffix_len (λ digit. digit == 48) digits) digits

-- `.` and the fraction, where it isn't zero
unfoldable pub fraction_text : ℕ → List ℕ
fraction_text f = if f == 0 then [] else 46 ∷ without_zeros (seven_wide f)

unfoldable pub magnitude_text : ℕ → List ℕ
magnitude_text units = decimal (units / 10000000) ++ fraction_text (units % 10000000)

-- so many 10^-7 degrees in degrees
unfoldable pub decimal_text : ℤ → List ℕ
decimal_text (pos units) = magnitude_text units
decimal_text (negsuc n) = 45 ∷ magnitude_text (suc n)

abbrev pub written_decimal : ℤ → Option Data
written_decimal units = Some (string (decimal_text units))

-- a name in an object of its own
unfoldable pub written_name : List ℕ → List ℕ → Option Data
written_name inner name = Some (row_object ((inner, written_text name) ∷ []))
