-- The pairs of rows: of which name each is, and that they are texts.
use Rattle.std.proofs.Common.{◌≡◌, ℕ, Bool, true, false, cond, List, [], ◌∷◌, map, Option, Some, None, refl, ap, ◌∙◌}
use Rattle.std.specs.Prelude.{nat_eq, IsUtf8, option_map, option_and_then}
use Rattle.std.specs.Cmp.Lexicographic.{pointwise}
use Rattle.std.specs.List.{AllByRecursion, filter_map, cons_option}
use Rattle.std.proofs.lemmas.Str.{IsUtf8-nil}
use Rattle.serde_json.specs.Data.{Data, null, boolean, number, string, array, object}
use Rattle.form_urlencoded.specs.Form.{extend_pairs}
use Rattle.siri_json.specs.Canonical.{IsCanonical}
use Rattle.siri_json.proofs.AsTexts.{canonical_as_texts}
use Rattle.siri_tables.specs.Writing.{Row, written_text}
use Rattle.siri_tables.proofs.CanonicalParts.{IsRowWithin, MayBeWithin}
use Rattle.siri_queries.specs.Documents.{given}
use Rattle.siri_queries.specs.Pairs.{first_value}
use Rattle.siri_queries.specs.Targets.{pair_of, value_text}
use Rattle.siri_laws.proofs.queries.FirstPairs.{Pair, AreTexts, first_of, form_gives}

-- ---- their texts

value_utf8 : (d : Data) → IsCanonical d → IsUtf8 (value_text d)
value_utf8 null is = IsUtf8-nil
value_utf8 (boolean b) is = IsUtf8-nil
value_utf8 (number n) is = canonical_as_texts (number n) is
value_utf8 (string s) is = is
value_utf8 (array ds) is = IsUtf8-nil
value_utf8 (object ms) is = IsUtf8-nil

pair_texts : (most : ℕ) (name : List ℕ) (value : Option Data) (pairs : List Pair) → IsUtf8 name → MayBeWithin most value
    → AllByRecursion AreTexts pairs → AllByRecursion AreTexts (cons_option (pair_of (name, value)) pairs)
pair_texts most name None pairs is within texts = texts
pair_texts most name (Some d) pairs is within texts = ((is, value_utf8 d within.canonical), texts)

-- rows that are written canonically give pairs of texts
pub rows_texts : (most : ℕ) (rows : List Row) → AllByRecursion (IsRowWithin most) rows → AllByRecursion AreTexts (filter_map pair_of rows)
rows_texts most [] within = tt
rows_texts most (row ∷ rows) within =
    pair_texts most row.0 row.1 (filter_map pair_of rows) within.0.name within.0.value (rows_texts most rows within.1)

-- ---- their names

-- the first that is there
abbrev pub either : Option (List ℕ) → Option (List ℕ) → Option (List ℕ)
either None later = later
either (Some text) later = Some text

-- the text of the first row of a name that is written: in a table of constants it is found by computing
abbrev pub row_text : List ℕ → List Row → Option (List ℕ)
row_text wanted [] = None
row_text wanted (row ∷ rows) =
    cond (pointwise nat_eq row.0 wanted) (either (option_map value_text row.1) (row_text wanted rows)) (row_text wanted rows)

whichever : (b : Bool) (o : Option (List ℕ)) → o ≡ cond b o o
whichever true o = refl
whichever false o = refl

first_row : (wanted name : List ℕ) (value : Option Data) (pairs : List Pair)
    → first_of wanted (cons_option (pair_of (name, value)) pairs)
    ≡ cond (pointwise nat_eq name wanted) (either (option_map value_text value) (first_of wanted pairs)) (first_of wanted pairs)
first_row wanted name None pairs = whichever (pointwise nat_eq name wanted) (first_of wanted pairs)
first_row wanted name (Some d) pairs = refl

first_of_rows : (wanted : List ℕ) (rows : List Row) → first_of wanted (filter_map pair_of rows) ≡ row_text wanted rows
first_of_rows wanted [] = refl
first_of_rows wanted (row ∷ rows) =
    first_row wanted row.0 row.1 (filter_map pair_of rows)
    ∙ ap (λ (later : Option (List ℕ)).
    cond (pointwise nat_eq row.0 wanted) (either (option_map value_text row.1) later) later) (first_of_rows wanted rows)

-- a form of rows gives for each name the text of its first row
pub row_given : (most : ℕ) (wanted : List ℕ) (rows : List Row) → AllByRecursion (IsRowWithin most) rows
    → first_value wanted (extend_pairs [] (filter_map pair_of rows)) ≡ row_text wanted rows
row_given most wanted rows within = form_gives wanted (filter_map pair_of rows) (rows_texts most rows within) ∙ first_of_rows wanted rows

-- ---- members with these texts

-- a member with the text of its row
abbrev pub again : List Row → List ℕ → Row
again rows name = (name, option_and_then written_text (row_text name rows))

pub given_again : (most : ℕ) (rows : List Row) (names : List (List ℕ)) → AllByRecursion (IsRowWithin most) rows
    → map (given (extend_pairs [] (filter_map pair_of rows))) names ≡ map (again rows) names
given_again most rows [] within = refl
given_again most rows (name ∷ names) within =
    rw (row_given most name rows within, given_again most rows names within) refl
