-- What is read is proper where the texts of its tree are UTF-8: values, rows and lists that items have none of.
use Rattle.std.proofs.Common.{◌≡◌, ℕ, ℤ, pos, negsuc, Bool, true, false, List, [], ◌∷◌, Option, Some, None, Result, Ok, Err, arith}
use Rattle.std.specs.Prelude.{IfSome, unwrap_or, if◌then◌else◌}
use Rattle.serde_json.specs.Data.{Data}
use Rattle.siri_json.specs.Values.{Found, found, absent, wrong, text_in}
use Rattle.siri_json.specs.declared.path.Step.TheVariants.{Member}
use Rattle.siri_time.specs.Span.{span_of}
use Rattle.siri_tables.specs.Refusals.{Refusal, ◌>>=◌, each}
use Rattle.siri_tables.specs.Rules.{unless_wrong, read_from_text, span_or, unless_negative, non_negative_span, text, table, row}
use Rattle.siri_tables.specs.Rules.{required_row, required, inside, list}
use Rattle.siri_tables.specs.Proper.{IsSpan, IsText, IsListWithin, IsNonNegativeSpan}
use Rattle.siri_json.specs.TextsOfTrees.{TextsAreUtf8}
use Rattle.siri_tables.proofs.ProperParts.{OnRead, Yields, reads_to, on_ok, on_bind, required_on, text_yields, span_yields, table_yields}
use Rattle.siri_tables.proofs.ProperParts.{row_on, row_is, inside_on, list_on}
use Rattle.siri_deliveries.specs.declared.names.TheConstants.{ERROR_CONDITION, ERROR_TEXT, OTHER_ERROR}
use Rattle.siri_deliveries.specs.Errors.{other_error}
use Rattle.siri_wire.specs.laws.SpellingValues.{SpellsError}

-- ---- spans that aren't negative

non_negative_span_after : (r : Result ℤ Refusal) → OnRead (r >>= λ y. Ok (Some y)) (λ o. IfSome o IsSpan)
    → OnRead ((r >>= unless_negative) >>= λ y. Ok (Some y)) (λ o. IfSome o IsNonNegativeSpan)
non_negative_span_after (Ok (pos n)) is = is
non_negative_span_after (Ok (negsuc n)) is = tt
non_negative_span_after (Err e) is = tt

non_negative_span_found : (read : List ℕ → Result ℤ Refusal) (f : Found (List ℕ)) → OnRead (unless_wrong f >>= each read) (λ o. IfSome o IsSpan)
    → OnRead (unless_wrong f >>= each (λ t. read t >>= unless_negative)) (λ o. IfSome o IsNonNegativeSpan)
non_negative_span_found read (found t) is = non_negative_span_after (read t) is
non_negative_span_found read absent is = tt
non_negative_span_found read wrong is = tt

pub non_negative_span_yields : Yields non_negative_span IsNonNegativeSpan
unfolding read_from_text
non_negative_span_yields = λ d u. non_negative_span_found (λ t. span_or (span_of t)) (text_in d) (span_yields d u)

pub zero_or : (o : Option ℤ) → IfSome o IsNonNegativeSpan → IsNonNegativeSpan (unwrap_or o (pos 0))
zero_or None is = omega arith
zero_or (Some s) is = is

-- ---- rows and lists

pub required_row_on : {A : Type 0} (rule : Data → Result (Option A) Refusal) (P : A → Type 0) → Yields rule P
    → (key : List ℕ) (d : Data) → TextsAreUtf8 d → OnRead (required_row rule key d) P
unfolding required_row
required_row_on rule P y key d u = on_bind (λ o. IfSome o P) P (row rule key d) (required (Member key ∷ []))
    (row_on rule P y key d u) (λ o is. required_on P (Member key ∷ []) o is)

pub inside_yields : {A : Type 0} (rule : Data → Result (Option A) Refusal) (P : A → Type 0) → Yields rule P → (key : List ℕ) → Yields (inside rule key) P
unfolding inside
inside_yields rule P y key = λ d u. inside_on P (row rule key) (λ e v. row_on rule P y key e v) d u

-- an object that is spelled
pub spelled_yields : {A : Type 0} (rows : Data → Result A Refusal) (P : A → Type 0)
    → ((d : Data) (x : A) → TextsAreUtf8 d → rows d ≡ Ok x → P x) → Yields (table rows) P
spelled_yields rows P h = table_yields rows P (λ d u. reads_to P (rows d) (λ x e. h d x u e))

-- a list that was read
pub list_is : {A : Type 0} (rule : Data → Result (Option A) Refusal) (P : A → Type 0) → Yields rule P
    → (most : ℕ) (key : List ℕ) (d : Data) (xs : List A) → TextsAreUtf8 d → list rule most key d ≡ Ok xs
    → IsListWithin most P xs
list_is rule P y most key d xs u e = on_ok (IsListWithin most P) (list rule most key d) xs (list_on rule P y most key d u) e

-- what is read of an object, unless it counts as absent
pub unless_absent : {A : Type 0} (P : A → Type 0) (b : Bool) (r : Result A Refusal) → OnRead r P
    → OnRead (if b then Ok None else r >>= λ x. Ok (Some x)) (λ o. IfSome o P)
unless_absent P true r is = tt
unless_absent P false (Ok x) is = is
unless_absent P false (Err e) is = tt

-- ---- errors

pub error_yields : Yields other_error IsText
unfolding other_error
error_yields = λ d u. inside_yields (inside text ERROR_TEXT.now) IsText (inside_yields text IsText text_yields ERROR_TEXT.now) OTHER_ERROR.now d u

pub error_is : (d : Data) (error : Option (List ℕ)) → TextsAreUtf8 d → SpellsError d error → IfSome error IsText
error_is d error u s_ = row_is other_error IsText error_yields ERROR_CONDITION.now d error u s_
