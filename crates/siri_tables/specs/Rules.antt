-- The rules of rows: what a value is read as, nothing where it counts as absent, or the first refusal.
use Rattle.std.specs.Prelude.{ℕ, ◌+◌, ◌++◌, ℤ, pos, negsuc, count_by, not, is_some, option_to_list, List, [], ◌∷◌, length, nat_le, Bool}
use Rattle.std.specs.Prelude.{if◌then◌else◌, Option, Some, None, Result, Ok, Err}
use Rattle.serde_json.specs.Data.{Data}
use Rattle.serde_json.specs.Find.{as_null}
use Rattle.siri_base.specs.declared.reason.Reason.{Reason}
use Rattle.siri_base.specs.declared.reason.Reason.TheVariants.{Missing, WrongKind, BadName, BadTime, NoOffset, BadSpan, BadNumber, BadDecimal, TooMany}
use Rattle.siri_json.specs.Values.{Found, found, absent, wrong, member_of, text_in, flag_in, object_in, entries_of}
use Rattle.siri_json.specs.declared.path.Step.{Step}
use Rattle.siri_json.specs.declared.path.Step.TheVariants.{Member, Place}
use Rattle.siri_time.specs.Moment.{moment_of}
use Rattle.siri_time.specs.Span.{span_of}
use Rattle.siri_time.specs.declared.errors.TimeError.{TimeError}
use Rattle.siri_time.specs.declared.errors.TimeError.TheVariants as time
use Rattle.siri_time.specs.declared.errors.SpanError.{SpanError}
use Rattle.siri_tables.specs.Refusals.{Refusal, ◌>>=◌, refused, below, each}
use Rattle.siri_base.specs.Numbers.{number_of}
use Rattle.siri_tables.specs.Scalars.{decimal_of}

-- ---- texts that are read further

-- a value of another kind is refused
abbrev pub unless_wrong : {A : Type 0} → Found A → Result (Option A) Refusal
unless_wrong (found x) = Ok (Some x)
unless_wrong absent = Ok None
unless_wrong wrong = refused WrongKind

-- a text that is read further
unfoldable pub read_from_text : {A : Type 0} → (List ℕ → Result A Refusal) → Data → Result (Option A) Refusal
read_from_text read d = unless_wrong (text_in d) >>= each read

abbrev pub or_refused : {A : Type 0} → Reason → Option A → Result A Refusal
or_refused reason None = refused reason
or_refused reason (Some x) = Ok x

-- at most so many bytes
abbrev pub bounded : ℕ → List ℕ → Result (List ℕ) Refusal
bounded most t = if nat_le (length t) most then Ok t else refused BadName

abbrev pub moment_or : Result ℕ TimeError → Result ℕ Refusal
moment_or (Ok m) = Ok m
moment_or (Err time.BadTime) = refused BadTime
moment_or (Err time.NoOffset) = refused NoOffset

abbrev pub span_or : Result ℤ SpanError → Result ℤ Refusal
span_or (Ok s) = Ok s
span_or (Err e) = refused BadSpan

abbrev pub unless_negative : ℤ → Result ℤ Refusal
unless_negative (pos n) = Ok (pos n)
unless_negative (negsuc n) = refused BadSpan

-- ---- the rules

-- a text of at most 255 bytes
abbrev pub name : Data → Result (Option (List ℕ)) Refusal
name = read_from_text (bounded 255)

-- a text of at most 16,384 bytes
abbrev pub text : Data → Result (Option (List ℕ)) Refusal
text = read_from_text (bounded 16384)

abbrev pub moment : Data → Result (Option ℕ) Refusal
moment = read_from_text (λ t. moment_or (moment_of t))

abbrev pub span : Data → Result (Option ℤ) Refusal
span = read_from_text (λ t. span_or (span_of t))

-- a span that isn't negative
abbrev pub non_negative_span : Data → Result (Option ℤ) Refusal
non_negative_span = read_from_text (λ t. span_or (span_of t) >>= unless_negative)

abbrev pub number : Data → Result (Option ℕ) Refusal
number = read_from_text (λ t. or_refused BadNumber (number_of t))

abbrev pub decimal : Data → Result (Option ℤ) Refusal
decimal = read_from_text (λ t. or_refused BadDecimal (decimal_of t))

-- true or false, or a text for it
abbrev pub flag_or : Option Bool → Result (Option Bool) Refusal
flag_or None = refused WrongKind
flag_or (Some b) = Ok (Some b)

unfoldable pub flag : Data → Result (Option Bool) Refusal
flag d = flag_or (flag_in d)

-- an object of a table
unfoldable pub table : {A : Type 0} → (Data → Result A Refusal) → Data → Result (Option A) Refusal
table rows d = unless_wrong (object_in d) >>= each rows

-- what was read, unless all its rows are absent
abbrev pub unless_blank : {A : Type 0} → (A → Bool) → Option A → Option A
unless_blank blank None = None
unless_blank blank (Some x) = if blank x then None else Some x

-- an object of a table that isn't required: it counts as absent where all its rows are
unfoldable pub table_unless_blank : {A : Type 0} → (A → Bool) → (Data → Result A Refusal) → Data → Result (Option A) Refusal
table_unless_blank blank rows d = table rows d >>= λ o. Ok (unless_blank blank o)

-- ---- rows

-- what is there is read by a rule
abbrev pub maybe : {A : Type 0} → (Data → Result (Option A) Refusal) → Option Data → Result (Option A) Refusal
maybe rule None = Ok None
maybe rule (Some d) = rule d

-- what the member of that name is read as
unfoldable pub row : {A : Type 0} → (Data → Result (Option A) Refusal) → List ℕ → Data → Result (Option A) Refusal
row rule key d = below (Member key) (maybe rule (member_of key d))

-- what has to be there
abbrev pub required : {A : Type 0} → List Step → Option A → Result A Refusal
required path None = Err (record { path = path; reason = Missing })
required path (Some x) = Ok x

-- a row that is required
unfoldable pub required_row : {A : Type 0} → (Data → Result (Option A) Refusal) → List ℕ → Data → Result A Refusal
required_row rule key d = row rule key d >>= required (Member key ∷ [])

-- a member of the object that a value stands for
unfoldable pub inside : {A : Type 0} → (Data → Result (Option A) Refusal) → List ℕ → Data → Result (Option A) Refusal
inside rule key d = unless_wrong (object_in d) >>= maybe (row rule key)

-- what a value is read as that must not count as absent
unfoldable pub required_value : {A : Type 0} → (Data → Result (Option A) Refusal) → Data → Result A Refusal
required_value rule d = rule d >>= required []

-- ---- lists

abbrev pub is_null : Data → Bool
is_null d = is_some (as_null d)

-- the entries that aren't null
abbrev pub entry_count : Data → ℕ
entry_count d = count_by (λ e. not (is_null e)) (entries_of d)

-- the entries from a place on: those that are null are passed over, any other that counts as absent is Missing
unfoldable pub entries_from : {A : Type 0} → (Data → Result (Option A) Refusal) → ℕ → List Data → Result (List A) Refusal
entries_from rule place [] = Ok []
entries_from rule place (d ∷ ds) = if is_null d then entries_from rule (place + 1) ds else do
  first ← below (Place place) (required_value rule d)
  others ← entries_from rule (place + 1) ds
  Ok (first ∷ others)

-- the same, where an entry that counts as absent is passed over
unfoldable pub found_from : {A : Type 0} → (Data → Result (Option A) Refusal) → ℕ → List Data → Result (List A) Refusal
found_from rule place [] = Ok []
found_from rule place (d ∷ ds) = if is_null d then found_from rule (place + 1) ds else do
  first ← below (Place place) (rule d)
  others ← found_from rule (place + 1) ds
  Ok (option_to_list first ++ others)

-- at most so many entries, tested before they are read
abbrev pub at_most : {A : Type 0} → ℕ → (Data → Result A Refusal) → Data → Result A Refusal
at_most most read d = if nat_le (entry_count d) most then read d else refused TooMany

-- the entries of a value under a rule
unfoldable pub list_of : {A : Type 0} → (Data → Result (Option A) Refusal) → Data → Result (List A) Refusal
list_of rule d = entries_from rule 0 (entries_of d)

-- the names that a value's entries have at a name; entries without one are passed over
unfoldable pub names_of : List ℕ → Data → Result (List (List ℕ)) Refusal
names_of inner d = found_from (inside name inner) 0 (entries_of d)

abbrev pub or_empty : {A : Type 0} → (Data → Result (List A) Refusal) → Option Data → Result (List A) Refusal
or_empty read None = Ok []
or_empty read (Some d) = read d

-- the entries at a name
unfoldable pub list : {A : Type 0} → (Data → Result (Option A) Refusal) → ℕ → List ℕ → Data → Result (List A) Refusal
list rule most key d = below (Member key) (or_empty (at_most most (list_of rule)) (member_of key d))

abbrev pub not_empty : {A : Type 0} → List ℕ → List A → Result (List A) Refusal
not_empty key [] = Err (record { path = Member key ∷ []; reason = Missing })
not_empty key (x ∷ xs) = Ok (x ∷ xs)

-- the same, where there has to be one
unfoldable pub nonempty_list : {A : Type 0} → (Data → Result (Option A) Refusal) → ℕ → List ℕ → Data → Result (List A) Refusal
nonempty_list rule most key d = list rule most key d >>= not_empty key

-- the names that the entries at a name have at another
unfoldable pub names : List ℕ → ℕ → List ℕ → Data → Result (List (List ℕ)) Refusal
names inner most key d = below (Member key) (or_empty (at_most most (names_of inner)) (member_of key d))

-- a list inside an object of its own
unfoldable pub list_inside : {A : Type 0} → List ℕ → (Data → Result (List A) Refusal) → Data → Result (List A) Refusal
list_inside outer read d = below (Member outer) (maybe (λ v. unless_wrong (object_in v)) (member_of outer d) >>= or_empty read)
