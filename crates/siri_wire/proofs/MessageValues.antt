-- Values of messages that items have none of: what is spelled is read and the other way round, what was written is spelled
-- again, and it is canonical and not deep.
use Rattle.std.proofs.Common.{◌≡◌, ℕ, List, [], ◌∷◌, ℤ, pos, negsuc, Option, Some, None, Result, Ok, refl, arith}
use Rattle.std.specs.Prelude.{IfSome, option_and_then}
use Rattle.std.specs.List.{AllByRecursion}
use Rattle.std.specs.Fmt.{decimal as digits}
use Rattle.std.proofs.lemmas.Fmt.{IsAscii-decimal}
use Rattle.std.proofs.lemmas.Str.{IsUtf8-from_ascii}
use Rattle.serde_json.specs.Data.{Data}
use Rattle.siri_json.specs.Canonical.{as_texts}
use Rattle.siri_json.specs.Values.{object_in}
use Rattle.siri_tables.specs.Refusals.{Refusal}
use Rattle.siri_tables.specs.Rules.{text, number, non_negative_span, inside}
use Rattle.siri_tables.specs.Writing.{Row, row_object, written_text, written_span}
use Rattle.siri_tables.specs.Proper.{IsText, IsNumber, IsNonNegativeSpan}
use Rattle.siri_tables.proofs.Back.{GivesBack, row_again}
use Rattle.siri_tables.proofs.BackValues.{text_back, number_back, non_negative_span_back}
use Rattle.siri_tables.proofs.BackLists.{only_row}
use Rattle.siri_tables.proofs.RowSpells.{row_ok}
use Rattle.siri_tables.proofs.CanonicalParts.{MayBeWithin, text_within, some_span_within, row_within, ◌then◌, object_within}
use Rattle.siri_deliveries.specs.declared.names.TheConstants.{ERROR_TEXT, OTHER_ERROR}
use Rattle.siri_deliveries.specs.Errors.{other_error}
use Rattle.siri_deliveries.specs.WrittenValues.{written_error}
use Rattle.siri_wire.specs.Identifiers.{written_identifier}

-- ---- rules in lists and objects

-- what holds of each element, seen in another way
pub all_map : {A : Type 0} (P Q : A → Type 0) → ((x : A) → P x → Q x) → (xs : List A) → AllByRecursion P xs → AllByRecursion Q xs
all_map P Q h [] all = tt
all_map P Q h (x ∷ xs) all = (h x all.0, all_map P Q h xs all.1)

-- a rule inside an object, whose only row was written
pub inside_again : {A : Type 0} (rule : Data → Result (Option A) Refusal) (key : List ℕ) (written : Option Data) (value : Option A)
    → GivesBack rule written value → inside rule key (as_texts (row_object ((key, written) ∷ []))) ≡ Ok value
unfolding inside object_in
inside_again rule key written value again =
    let rs : List Row = (key, written) ∷ [] in
    row_ok rule key (as_texts (row_object rs)) value (row_again rule key rs written value (only_row key written) again)

-- ---- errors

pub error_back : (t : List ℕ) → IsText t → GivesBack other_error (written_error t) (Some t)
unfolding other_error written_error
error_back t is =
    let other : List Row = (ERROR_TEXT.now, written_text t) ∷ [] in
    inside_again (inside text ERROR_TEXT.now) OTHER_ERROR.now (Some (row_object other)) (Some t)
    (inside_again text ERROR_TEXT.now (written_text t) (Some t) (text_back t is))

pub error_within : (t : List ℕ) → IsText t → MayBeWithin 2 (written_error t)
unfolding written_error
error_within t is =
    let inner : List Row = (ERROR_TEXT.now, written_text t) ∷ [] in
    let outer : List Row = (OTHER_ERROR.now, Some (row_object inner)) ∷ [] in
    object_within 1 outer (
    row_within 1 OTHER_ERROR.now (Some (row_object inner)) refl
    (object_within 0 inner (row_within 0 ERROR_TEXT.now (written_text t) refl (text_within 0 t is.utf8) then tt))
    then
    tt)

-- ---- numbers that are written as texts

pub identifier_back : (n : ℕ) → IsNumber n → GivesBack number (written_identifier n) (Some n)
identifier_back n is = number_back n is

pub identifier_within : (most n : ℕ) → IsNumber n → MayBeWithin most (written_identifier n)
identifier_within most n is = text_within most (digits n) (IsUtf8-from_ascii (digits n) (IsAscii-decimal n (omega (arith, is))))

-- ---- spans that aren't negative

pub whole_span_back : (s : ℤ) → IsNonNegativeSpan s → GivesBack non_negative_span (written_span s) (Some s)
whole_span_back (pos n) is = non_negative_span_back n is
whole_span_back (negsuc n) is = absurd is

pub some_whole_span_within : (most : ℕ) (o : Option ℤ) → IfSome o IsNonNegativeSpan → MayBeWithin most (option_and_then written_span o)
some_whole_span_within most None is = tt
some_whole_span_within most (Some (pos n)) is = some_span_within most (Some (pos n)) is
some_whole_span_within most (Some (negsuc n)) is = absurd is
