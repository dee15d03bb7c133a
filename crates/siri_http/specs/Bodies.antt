-- How long a body is (RFC 9112, section 6; RFC 9110, section 8.6).
use Rattle.std.specs.Prelude.{ℕ, Bool, true, false, nat_lt, List, [], ◌∷◌, map, filter, codes, Option, None, Some, Result, Ok, Err, if◌then◌else◌}
use Rattle.std.specs.Str.{str_eq_ignore_ascii_case}
use Rattle.siri_base.specs.Numbers.{number_of}
use Rattle.siri_http.specs.declared.errors.HttpError.{HttpError}
use Rattle.siri_http.specs.declared.errors.HttpError.TheVariants as http

-- a field of a head: its name, and its value without the white space around it
abbrev pub Named : Type 0
Named = List ℕ × List ℕ

-- the values of the fields of that name, in order; the case of letters makes no difference in names
unfoldable pub values : List ℕ → List Named → List (List ℕ)
values name fields = map (λ field. field.1) (filter (λ field. str_eq_ignore_ascii_case field.0 name) fields)

-- a list has an entry
abbrev pub has_some : List (List ℕ) → Bool
has_some [] = false
has_some (value ∷ more) = true

-- the most bytes that a body has
abbrev pub longest_body : ℕ
longest_body = 8388608

-- the length of a body that a Content-Length gives, where no other coding is in the way
abbrev pub allowed : Bool → ℕ → Result ℕ HttpError
allowed coded count =
    if coded then Err http.TransferCoding else (if nat_lt longest_body count then Err http.BodyTooLong else Ok count)

-- the length of a body without a Content-Length: there is none where the message may leave it out
abbrev pub without_length : Bool → Bool → Result ℕ HttpError
without_length coded wanted =
    if coded then Err http.TransferCoding else (if wanted then Err http.NoLength else Ok 0)

-- the length of a body by the value of the one Content-Length
abbrev pub by_value : Bool → Option ℕ → Result ℕ HttpError
by_value coded None = Err http.BadHead
by_value coded (Some count) = allowed coded count

-- the length of a body by the values of Content-Length, whether a Transfer-Encoding stands, and whether a length is wanted
abbrev pub by_values : List (List ℕ) → Bool → Bool → Result ℕ HttpError
by_values [] coded wanted = without_length coded wanted
by_values (value ∷ []) coded wanted = by_value coded (number_of value)
by_values (first ∷ second ∷ more) coded wanted = Err http.BadHead

-- the length of the body after a head, or why the head is refused: the first reason that fits
unfoldable pub body_length : Bool → List Named → Result ℕ HttpError
body_length wanted fields =
    by_values (values (codes "Content-Length") fields) (has_some (values (codes "Transfer-Encoding") fields)) wanted
