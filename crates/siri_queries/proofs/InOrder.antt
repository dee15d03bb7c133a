-- Objects that are written in byte order of their names, a lemma an object.
use Rattle.std.proofs.Common.{◌≡◌, ℕ, true, false, List, [], ◌∷◌, ◌++◌, Option, Some, None, refl, sym, ap, ◌∙◌, map}
use Rattle.std.proofs.Common.{append_assoc, append-nil}
use Rattle.std.specs.Prelude.{option_and_then, option_map, is_some, ◌||◌}
use Rattle.std.specs.Cow.{cow_str_bytes}
use Rattle.std.specs.declared.alloc.Global.{Global}
use Rattle.std.specs.declared.borrow.CowStr.{CowStr}
use Rattle.json.specs.Token.{Token, key, begin_object, end_object, begin_array, end_array}
use Rattle.json.specs.Print.{print}
use Rattle.serde_json.specs.Data.{Data}
use Rattle.serde_json.specs.Written.{compact_text}
use Rattle.serde_json.proofs.Texts.{print-outline}
use Rattle.siri_json.specs.Tokens.{tokens_of}
use Rattle.siri_records.specs.declared.item.Service.{Service}
use Rattle.siri_records.specs.declared.item.Service.TheVariants as service
use Rattle.siri_items.specs.declared.names.TheConstants.{LINE_REF, DIRECTION_REF}
use Rattle.siri_tables.specs.Appended.{row_tokens}
use Rattle.siri_tables.specs.Writing.{Row, row_object, written_text}
use Rattle.siri_tables.proofs.Sorted.{rows_onto, sorted, object_in_order, any_written, written_object, left_out}
use Rattle.siri_deliveries.specs.declared.names.TheConstants.{LINES, LINE_DIRECTION, SIRI, SERVICE_REQUEST}
use Rattle.siri_queries.specs.Documents.{names_of, given, list_of_one, one_line, lines_of, asked_of, request_name}
use Rattle.siri_queries.specs.Documents.{document_tree}

-- the rows of what a query asks of a service
abbrev pub asked_rows : Service → List ℕ → List Row
asked_rows s query = map (given query) (names_of s) ++ lines_of s query

-- ---- what is asked

pub stop_in_order : (old : List Token) (query : List ℕ)
    → rows_onto (old ++ begin_object ∷ []) (sorted (asked_rows service.Stop query)) ++ end_object ∷ [] ≡ old
    ++ tokens_of (asked_of service.Stop query)
stop_in_order old query = object_in_order old (asked_rows service.Stop query)

pub timetable_in_order : (old : List Token) (query : List ℕ)
    → rows_onto (old ++ begin_object ∷ []) (sorted (asked_rows service.Timetable query)) ++ end_object ∷ [] ≡ old
    ++ tokens_of (asked_of service.Timetable query)
timetable_in_order old query = object_in_order old (asked_rows service.Timetable query)

pub vehicle_in_order : (old : List Token) (query : List ℕ)
    → rows_onto (old ++ begin_object ∷ []) (sorted (asked_rows service.Vehicle query)) ++ end_object ∷ [] ≡ old
    ++ tokens_of (asked_of service.Vehicle query)
vehicle_in_order old query = object_in_order old (asked_rows service.Vehicle query)

pub situation_in_order : (old : List Token) (query : List ℕ)
    → rows_onto (old ++ begin_object ∷ []) (sorted (asked_rows service.Situation query)) ++ end_object ∷ [] ≡ old
    ++ tokens_of (asked_of service.Situation query)
situation_in_order old query = object_in_order old (asked_rows service.Situation query)

-- ---- Lines

-- the rows of a LineDirection
abbrev pub line_rows : (line direction : Option (List ℕ)) → List Row
line_rows line direction =
    (LINE_REF.now, option_and_then written_text line) ∷ (DIRECTION_REF.now, option_and_then written_text direction) ∷ []

pub one_line_written : (line direction : Option (List ℕ)) → any_written (line_rows line direction) ≡ true
    → one_line line direction ≡ Some (list_of_one LINE_DIRECTION.now (row_object (line_rows line direction)))
one_line_written line direction is = rw (written_object (line_rows line direction) is)

pub no_line : (line direction : Option (List ℕ)) → any_written (line_rows line direction) ≡ false → one_line line direction ≡ None
no_line line direction is = rw (left_out (line_rows line direction) is)

regroup_lines : (old a b : List Token) (k m : Token)
    → ((((((((((old ++ k ∷ []) ++ begin_object ∷ []) ++ m ∷ []) ++ begin_array ∷ []) ++ begin_object ∷ []) ++ a) ++ b)
    ++ end_object ∷ []) ++ end_array ∷ []) ++ end_object ∷ [])
    ≡ old ++ k ∷ begin_object ∷ m ∷ begin_array ∷ (((begin_object ∷ (a ++ (b ++ end_object ∷ []))) ++ end_array ∷ []) ++ end_object ∷ [])
regroup_lines old a b k m = simp append_assoc

rows_written : (line direction : Option (List ℕ)) → is_some (one_line line direction) ≡ true → any_written (line_rows line direction) ≡ true
rows_written None None is = absurd cc
rows_written None (Some d) is = refl
rows_written (Some l) None is = refl
rows_written (Some l) (Some d) is = refl

pub line_in_order : (old : List Token) (line direction : Option (List ℕ)) → is_some (one_line line direction) ≡ true
    → ((((((((((old ++ key LINES.now ∷ []) ++ begin_object ∷ []) ++ key LINE_DIRECTION.now ∷ []) ++ begin_array ∷ []) ++ begin_object ∷ [])
    ++ row_tokens DIRECTION_REF.now (option_and_then written_text direction)) ++ row_tokens LINE_REF.now (option_and_then written_text line))
    ++ end_object ∷ []) ++ end_array ∷ []) ++ end_object ∷ [])
    ≡ old ++ row_tokens LINES.now (one_line line direction)
line_in_order old line direction is =
    let first = row_tokens DIRECTION_REF.now (option_and_then written_text direction) in
    let second = row_tokens LINE_REF.now (option_and_then written_text line) in
    let entry : begin_object ∷ (first ++ (second ++ end_object ∷ [])) ≡ tokens_of (row_object (line_rows line direction)) =
    sym (append_assoc (begin_object ∷ first) second (end_object ∷ [])) ∙ object_in_order [] (line_rows line direction) in
    let written = one_line_written line direction (rows_written line direction is) in
    regroup_lines old first second (key LINES.now) (key LINE_DIRECTION.now)
    ∙ ap (λ (e : List Token). old ++ key LINES.now ∷ begin_object ∷ key LINE_DIRECTION.now ∷ begin_array ∷ ((e ++ end_array ∷ []) ++ end_object ∷ [])) entry
    ∙ ap (λ (lines : Option Data). old ++ row_tokens LINES.now lines) (sym written)

pub line_left_out : (old : List Token) (line direction : Option (List ℕ)) → is_some (one_line line direction) ≡ false
    → old ≡ old ++ row_tokens LINES.now (one_line line direction)
line_left_out old None None is = sym (append-nil old)
line_left_out old None (Some d) is = absurd cc
line_left_out old (Some l) None is = absurd cc
line_left_out old (Some l) (Some d) is = absurd cc

-- Lines is written where a line or a direction is there
pub one_line_is_some : (line direction : Option (CowStr Global))
    → is_some (one_line (option_map cow_str_bytes line) (option_map cow_str_bytes direction)) ≡ (is_some line || is_some direction)
one_line_is_some None None = refl
one_line_is_some None (Some d) = refl
one_line_is_some (Some l) None = refl
one_line_is_some (Some l) (Some d) = refl

-- ---- documents

regroup_document : (old a : List Token) (s r n : Token)
    → ((((((((((((old ++ begin_object ∷ []) ++ s ∷ []) ++ begin_object ∷ []) ++ r ∷ []) ++ begin_object ∷ []) ++ n ∷ [])
    ++ begin_array ∷ []) ++ a) ++ end_array ∷ []) ++ end_object ∷ []) ++ end_object ∷ []) ++ end_object ∷ [])
    ≡ old ++ begin_object ∷ s ∷ begin_object ∷ r ∷ begin_object ∷ n ∷ begin_array ∷ (a ++ end_array ∷ end_object ∷ end_object ∷ end_object ∷ [])
regroup_document old a s r n = simp append_assoc

regroup_tree : (old a : List Token) (s r n : Token)
    → old ++ begin_object ∷ s ∷ ((begin_object ∷ r ∷ ((begin_object ∷ n ∷ ((begin_array ∷ (a ++ end_array ∷ [])) ++ end_object ∷ [])) ++ end_object ∷ [])) ++ end_object ∷ [])
    ≡ old ++ begin_object ∷ s ∷ begin_object ∷ r ∷ begin_object ∷ n ∷ begin_array ∷ (a ++ end_array ∷ end_object ∷ end_object ∷ end_object ∷ [])
regroup_tree old a s r n = simp append_assoc

pub document_in_order : (old : List Token) (s : Service) (query : List ℕ)
    → ((((((((((((old ++ begin_object ∷ []) ++ key SIRI.now ∷ []) ++ begin_object ∷ []) ++ key SERVICE_REQUEST.now ∷ []) ++ begin_object ∷ [])
    ++ key (request_name s) ∷ []) ++ begin_array ∷ []) ++ tokens_of (asked_of s query)) ++ end_array ∷ []) ++ end_object ∷ [])
    ++ end_object ∷ []) ++ end_object ∷ [])
    ≡ old ++ tokens_of (document_tree s query)
document_in_order old s query =
    regroup_document old (tokens_of (asked_of s query)) (key SIRI.now) (key SERVICE_REQUEST.now) (key (request_name s))
    ∙ sym (regroup_tree old (tokens_of (asked_of s query)) (key SIRI.now) (key SERVICE_REQUEST.now) (key (request_name s)))

pub document_said : (s : Service) (query : List ℕ)
    → print ([] ++ tokens_of (document_tree s query)) ≡ compact_text (document_tree s query)
document_said s query = print-outline (document_tree s query)
