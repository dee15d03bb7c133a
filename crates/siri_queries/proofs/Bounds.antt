-- How long the document of a target can be.
use Rattle.std.proofs.Common.{◌≡◌, ℕ, zero, suc, ◌+◌, ◌*◌, ◌≤◌, ◌<◌, Bool, true, false, cond, List, [], ◌∷◌, ◌++◌}
use Rattle.std.proofs.Common.{Option, Some, None, refl}
use Rattle.std.proofs.Common.{sym, ap, ◌∙◌, subst, map, length, take, drop, arith, length-append, length-drop}
use Rattle.std.proofs.Common.{length-take-le}
use Rattle.std.proofs.lemmas.Bool.{eqb-false}
use Rattle.std.proofs.lemmas.List.{length-map}
use Rattle.std.proofs.lemmas.Str.{utf8_valid_len_le}
use Rattle.std.specs.Prelude.{⊤, ◌/◌, ◌%◌, ◌==◌, ◌&&◌, nat_eq, nat_lt, filter, IfSome, option_and_then, unwrap_or}
use Rattle.std.specs.Cmp.Lexicographic.{pointwise}
use Rattle.std.specs.Char.{digit_value, digit_char}
use Rattle.std.specs.Str.Lossy.{utf8_lossy, utf8_lossy_within, utf8_valid_len, utf8_invalid_len, after_first_chunk}
use Rattle.std.specs.Str.Lossy.{utf8_error_len, error_len_of_some, error_len_after_one, error_len_after_two}
use Rattle.std.specs.Str.Lossy.{replacement_bytes}
use Rattle.std.specs.Str.Lossy.{second_byte_min, second_byte_max}
use Rattle.std.specs.Int.{is_in_range}
use Rattle.std.specs.List.{slice_index, position_or_len}
use Rattle.percent_encoding.specs.Percent.{percent_decode, is_escape}
use Rattle.form_urlencoded.specs.Form.{split, onto_first, split_pair, is_nonempty, raw_pairs, plus_to_space}
use Rattle.json.specs.Token.{Token, key, begin_object, end_object, end_array}
use Rattle.json.specs.Print.{escape, escape_byte, escape_letter, quoted, token_text, print_from, print, separator}
use Rattle.json.specs.Print.{ends, begins}
use Rattle.serde_json.specs.Data.{Data, array}
use Rattle.serde_json.specs.View.{items_of}
use Rattle.serde_json.specs.Written.{compact_text}
use Rattle.siri_json.specs.Tokens.{tokens_of}
use Rattle.siri_json.specs.Tree.{longest_document}
use Rattle.siri_records.specs.declared.item.Service.{Service}
use Rattle.siri_records.specs.declared.item.Service.TheVariants as service
use Rattle.siri_items.specs.declared.names.TheConstants.{MONITORING_REF, LINE_REF, DIRECTION_REF, OPERATOR_REF}
use Rattle.siri_items.specs.declared.names.TheConstants.{DESTINATION_REF, START_TIME, VEHICLE_REF, STOP_POINT_REF}
use Rattle.siri_tables.specs.Appended.{row_tokens}
use Rattle.siri_tables.specs.Writing.{Row, row_object, written_text}
use Rattle.siri_tables.proofs.Sorted.{rows_onto, sorted, object_in_order, any_written}
use Rattle.siri_deliveries.specs.declared.names.TheConstants.{PREVIEW_INTERVAL, MAXIMUM_STOP_VISITS, LINES}
use Rattle.siri_deliveries.specs.declared.names.TheConstants.{LINE_DIRECTION, SIRI, SERVICE_REQUEST}
use Rattle.siri_queries.specs.Documents.{given, list_of_one, one_line, given_lines, asked_of, request_name}
use Rattle.siri_queries.specs.Documents.{document_tree}
use Rattle.siri_queries.specs.Pairs.{query_in, text_of, first_among, first_value}
use Rattle.siri_queries.proofs.InOrder.{asked_rows, line_rows, one_line_written, no_line, document_said}

-- ---- what a value stands for

decoded_at : (b high low : ℕ) (rest : List ℕ) (is : Bool) → length (percent_decode rest) ≤ length rest
    → length (percent_decode (high ∷ low ∷ rest)) ≤ length (high ∷ low ∷ rest)
    → length (cond is ((16 * digit_value high + digit_value low) ∷ percent_decode rest) (b ∷ percent_decode (high ∷ low ∷ rest)))
    ≤ length (b ∷ high ∷ low ∷ rest)
decoded_at b high low rest true short long = omega arith
decoded_at b high low rest false short long = omega arith

decoded_within : (bs : List ℕ) → length (percent_decode bs) ≤ length bs
unfolding percent_decode
decoded_within [] = omega arith
decoded_within (b ∷ []) = omega arith
decoded_within (b ∷ c ∷ []) = omega arith
decoded_within (b ∷ high ∷ low ∷ rest) =
    decoded_at b high low rest (is_escape b high low) (decoded_within rest) (decoded_within (high ∷ low ∷ rest))

either : {A : Type 0} (P : A → Type 0) (b : Bool) (x y : A) → P x → P y → P (cond b x y)
either P true x y first second = first
either P false x y first second = second

-- where no character begins a text, U+FFFD stands for a byte at least
some_invalid : (bs : List ℕ) → 0 < length bs → 0 < utf8_invalid_len bs
unfolding utf8_error_len
some_invalid bs some =
    let P : Option ℕ → Type 0 = λ o. 0 < unwrap_or o (length bs) in
    let one : P (Some 1) = omega arith in
    let two : P (Some 2) = omega arith in
    let three : P (Some 3) = omega arith in
    let first = slice_index bs 0 in
    let third = is_in_range 0x80 0xBF (slice_index bs 2) in
    let second = is_in_range (second_byte_min first) (second_byte_max first) (slice_index bs 1) in
    let last = cond (nat_lt (length bs) 4) None (Some 3) in
    let after_three : P last = either P (nat_lt (length bs) 4) None (Some 3) some three in
    let after_two : P (error_len_after_two bs) =
    either P (nat_lt (length bs) 3) None (cond third last (Some 2)) some (either P third last (Some 2) after_three two) in
    let after_one : P (error_len_after_one bs) =
    either P (nat_lt (length bs) 2) None (cond second (error_len_after_two bs) (Some 1)) some
    (either P second (error_len_after_two bs) (Some 1) after_two one) in
    either P (length bs == 0) None (error_len_of_some bs) some
    (either P (is_in_range 0xC2 0xF4 first) (error_len_after_one bs) (Some 1) after_one one)

lossy_at : (k : ℕ) (bs : List ℕ) (whole : Bool) → (utf8_valid_len bs == length bs) ≡ whole
    → length (utf8_lossy_within k (after_first_chunk bs)) ≤ 3 * length (after_first_chunk bs)
    → length (cond whole bs (take (utf8_valid_len bs) bs ++ (replacement_bytes ++ utf8_lossy_within k (after_first_chunk bs))))
    ≤ 3 * length bs
lossy_at k bs true is rest = omega arith
lossy_at k bs false is rest =
    let n = utf8_valid_len bs in
    let most = utf8_valid_len_le bs in
    let faulty = eqb-false n (length bs) is in
    let left = length-drop n bs in
    let some = some_invalid (drop n bs) (omega arith) in
    let front = length-take-le n bs most in
    let behind = length-drop (n + utf8_invalid_len (drop n bs)) bs in
    let all = length-append (take n bs) (replacement_bytes ++ utf8_lossy_within k (after_first_chunk bs)) in
    let more = length-append replacement_bytes (utf8_lossy_within k (after_first_chunk bs)) in
    omega arith

lossy_within : (k : ℕ) (bs : List ℕ) → length (utf8_lossy_within k bs) ≤ 3 * length bs
lossy_within zero bs = omega arith
lossy_within (suc k) bs = lossy_at k bs (utf8_valid_len bs == length bs) refl (lossy_within k (after_first_chunk bs))

-- a text has at most three times the bytes that it is decoded from
text_within : (bs : List ℕ) → length (text_of bs) ≤ 3 * length bs
unfolding utf8_lossy
text_within bs =
    let decoded = percent_decode (map plus_to_space bs) in
    let lossy = lossy_within (length decoded) decoded in
    let within = decoded_within (map plus_to_space bs) in
    omega (arith, length-map bs plus_to_space)

-- ---- the pieces of a query

abbrev EachWithin : ℕ → List (List ℕ) → Type 0
EachWithin n [] = ⊤
EachWithin n (p ∷ ps) = (length p ≤ n) × EachWithin n ps

wider : (n m : ℕ) (ps : List (List ℕ)) → n ≤ m → EachWithin n ps → EachWithin m ps
wider n m [] le each = tt
wider n m (p ∷ ps) le each = let first = each.0 in (omega arith, wider n m ps le each.1)

onto_within : (n b : ℕ) (ps : List (List ℕ)) → EachWithin n ps → EachWithin (suc n) (onto_first b ps)
onto_within n b [] each = (omega arith, tt)
onto_within n b (p ∷ ps) each = let first = each.0 in (omega arith, wider n (suc n) ps (omega arith) each.1)

split_at : (s b : ℕ) (bs : List ℕ) (same : Bool) → EachWithin (length bs) (split s bs)
    → EachWithin (suc (length bs)) (cond same ([] ∷ split s bs) (onto_first b (split s bs)))
split_at s b bs true each = (omega arith, wider (length bs) (suc (length bs)) (split s bs) (omega arith) each)
split_at s b bs false each = onto_within (length bs) b (split s bs) each

split_within : (s : ℕ) (bs : List ℕ) → EachWithin (length bs) (split s bs)
unfolding split
split_within s [] = (omega arith, tt)
split_within s (b ∷ bs) = split_at s b bs (b == s) (split_within s bs)

-- ---- the first value of a name

abbrev IsWithin : ℕ → Option (List ℕ) → Type 0
IsWithin n found = IfSome found (λ v. length v ≤ 3 * n)

value_within : (n : ℕ) (p : List ℕ) → length p ≤ n → length (text_of (split_pair p).1) ≤ 3 * n
value_within n p le =
    let decoded = text_within (split_pair p).1 in
    omega (arith, length-drop (position_or_len (λ (b : ℕ). b == 61) p + 1) p)

found_at : (n : ℕ) (value : List ℕ) (others : Option (List ℕ)) (is : Bool) → length value ≤ 3 * n → IsWithin n others
    → IsWithin n (cond is (Some value) others)
found_at n value others true le rest = le
found_at n value others false le rest = rest

kept_at : (n : ℕ) (wanted p : List ℕ) (kept : List (List ℕ)) (some : Bool) → length p ≤ n
    → IsWithin n (first_among wanted (map split_pair kept))
    → IsWithin n (first_among wanted (map split_pair (cond some (p ∷ kept) kept)))
kept_at n wanted p kept true le rest =
    found_at n (text_of (split_pair p).1) (first_among wanted (map split_pair kept))
    (pointwise nat_eq (text_of (split_pair p).0) wanted) (value_within n p le) rest
kept_at n wanted p kept false le rest = rest

pieces_within : (n : ℕ) (wanted : List ℕ) (ps : List (List ℕ)) → EachWithin n ps
    → IsWithin n (first_among wanted (map split_pair (filter is_nonempty ps)))
pieces_within n wanted [] each = tt
pieces_within n wanted (p ∷ ps) each =
    kept_at n wanted p (filter is_nonempty ps) (is_nonempty p) each.0 (pieces_within n wanted ps each.1)

first_within : (wanted query : List ℕ) → IsWithin (length query) (first_value wanted query)
unfolding raw_pairs
first_within wanted query = pieces_within (length query) wanted (split 38 query) (split_within 38 query)

-- ---- what is written

both_within : (n : ℕ) (b : Bool) (x y : List ℕ) → length x ≤ n → length y ≤ n → length (cond b x y) ≤ n
both_within n true x y first second = first
both_within n false x y first second = second

byte_within : (x : ℕ) → length (escape_byte x) ≤ 6
unfolding escape_byte
byte_within x =
    let control = 92 ∷ 117 ∷ 48 ∷ 48 ∷ digit_char (x / 16) ∷ digit_char (x % 16) ∷ [] in
    both_within 6 (nat_lt 0 (escape_letter x)) (92 ∷ escape_letter x ∷ []) (cond (nat_lt x 32) control (x ∷ [])) (omega arith)
    (both_within 6 (nat_lt x 32) control (x ∷ []) (omega arith) (omega arith))

escape_within : (s : List ℕ) → length (escape s) ≤ 6 * length s
escape_within [] = omega arith
escape_within (x ∷ s) =
    let first = byte_within x in
    let rest = escape_within s in
    let all = length-append (escape_byte x) (escape s) in
    omega arith

quoted_within : (s : List ℕ) → length (quoted s) ≤ 2 + 6 * length s
quoted_within s =
    let escaped = escape_within s in
    omega (arith, length-append (escape s) (34 ∷ []))

key_within : (name : List ℕ) → length (token_text (key name)) ≤ 3 + 6 * length name
key_within name =
    let text = quoted_within name in
    omega (arith, length-append (quoted name) (58 ∷ []))

-- the bytes of tokens and of a separator before each
abbrev width : List Token → ℕ
width [] = 0
width (t ∷ ts) = (1 + length (token_text t)) + width ts

separated : (after : Bool) (t : Token) → length (separator after t) ≤ 1
separated after t = both_within 1 (after && begins t) (44 ∷ []) [] (omega arith) (omega arith)

print_within : (after : Bool) (ts : List Token) → length (print_from after ts) ≤ width ts
unfolding print_from
print_within after [] = omega arith
print_within after (t ∷ ts) =
    let comma = separated after t in
    let rest = print_within (ends t) ts in
    let all = length-append (separator after t) (token_text t ++ print_from (ends t) ts) in
    let more = length-append (token_text t) (print_from (ends t) ts) in
    omega arith

width_append : (xs ys : List Token) → width (xs ++ ys) ≡ width xs + width ys
width_append [] ys = omega arith
width_append (x ∷ xs) ys = let rest = width_append xs ys in omega arith

-- ---- rows and objects

text_row_within : (name : List ℕ) (o : Option (List ℕ)) → length name ≤ 24 → IsWithin 16384 o
    → width (row_tokens name (option_and_then written_text o)) ≤ 295112
text_row_within name None le within = omega arith
text_row_within name (Some v) le within =
    let name_text = key_within name in
    let value_text = quoted_within v in
    omega arith

at_most : (n m : ℕ) (o : Option (List ℕ)) → n ≤ m → IsWithin n o → IsWithin m o
at_most n m None le within = tt
at_most n m (Some v) le within = omega arith

given_within : (query name : List ℕ) → length query ≤ 16384 → length name ≤ 24
    → width (row_tokens name (given query name).1) ≤ 295112
given_within query name short le =
    text_row_within name (first_value name query) le
    (at_most (length query) 16384 (first_value name query) short (first_within name query))

abbrev RowsWithin : ℕ → List Row → Type 0
RowsWithin n [] = ⊤
RowsWithin n (r ∷ rs) = (width (row_tokens r.0 r.1) ≤ n) × RowsWithin n rs

rows_within : (n : ℕ) (ts : List Token) (rs : List Row) → RowsWithin n rs → width (rows_onto ts rs) ≤ width ts + length rs * n
rows_within n ts [] each = omega arith
rows_within n ts (r ∷ rs) each =
    let first = each.0 in
    let rest = rows_within n (ts ++ row_tokens r.0 r.1) rs each.1 in
    let put = width_append ts (row_tokens r.0 r.1) in
    grind arith

object_within : (n : ℕ) (rs : List Row) → RowsWithin n (sorted rs) → width (tokens_of (row_object rs)) ≤ 4 + length (sorted rs) * n
object_within n rs each =
    let written = ap width (object_in_order [] rs) in
    let rows = rows_within n (begin_object ∷ []) (sorted rs) each in
    let closed = width_append (rows_onto (begin_object ∷ []) (sorted rs)) (end_object ∷ []) in
    omega arith

-- an object of one row
one_row_within : (name : List ℕ) (d : Data) → length name ≤ 32
    → width (tokens_of (row_object ((name, Some d) ∷ []))) ≤ 204 + width (tokens_of d)
one_row_within name d le =
    let name_text = key_within name in
    let closed = width_append (tokens_of d) (end_object ∷ []) in
    omega arith

list_within : (name : List ℕ) (d : Data) → length name ≤ 32 → width (tokens_of (list_of_one name d)) ≤ 212 + width (tokens_of d)
list_within name d le =
    let one = one_row_within name (array (items_of (d ∷ []))) le in
    let closed = width_append (tokens_of d) (end_array ∷ []) in
    omega arith

-- ---- what is asked

line_within : (line direction : Option (List ℕ)) (written : Bool) → any_written (line_rows line direction) ≡ written
    → IsWithin 16384 line → IsWithin 16384 direction → width (row_tokens LINES.now (one_line line direction)) ≤ 600000
line_within line direction false is first second = rw (no_line line direction is) (omega arith)
line_within line direction true is first second =
    let rows = object_within 295112 (line_rows line direction)
    (text_row_within DIRECTION_REF.now direction (omega arith) second, (text_row_within LINE_REF.now line (omega arith) first, tt)) in
    let lines = list_within LINE_DIRECTION.now (row_object (line_rows line direction)) (omega arith) in
    let name_text = key_within LINES.now in
    rw (one_line_written line direction is) (omega arith)

lines_within : (query : List ℕ) → length query ≤ 16384 → width (row_tokens LINES.now (given_lines query)) ≤ 600000
lines_within query short =
    line_within (first_value LINE_REF.now query) (first_value DIRECTION_REF.now query)
    (any_written (line_rows (first_value LINE_REF.now query) (first_value DIRECTION_REF.now query))) refl
    (at_most (length query) 16384 (first_value LINE_REF.now query) short (first_within LINE_REF.now query))
    (at_most (length query) 16384 (first_value DIRECTION_REF.now query) short (first_within DIRECTION_REF.now query))

asked_within : (s : Service) (query : List ℕ) → length query ≤ 16384 → width (tokens_of (asked_of s query)) ≤ 8000000
asked_within service.Stop query short =
    let given = given_within query in
    let all = object_within 295112 (asked_rows service.Stop query) (
      given DESTINATION_REF.now short (omega arith),
      (
        given DIRECTION_REF.now short (omega arith),
        (
          given LINE_REF.now short (omega arith),
          (
            given MAXIMUM_STOP_VISITS.now short (omega arith),
            (
              given MONITORING_REF.now short (omega arith),
              (
                given OPERATOR_REF.now short (omega arith),
                (
                  given PREVIEW_INTERVAL.now short (omega arith),
                  (
                    given START_TIME.now short (omega arith),
                    tt,
                  ),
                ),
              ),
            ),
          ),
        ),
      ),
    ) in
    omega arith
asked_within service.Timetable query short =
    let operator = given_within query OPERATOR_REF.now short (omega arith) in
    let interval = given_within query PREVIEW_INTERVAL.now short (omega arith) in
    let all = object_within 600000 (asked_rows service.Timetable query)
    (lines_within query short, (omega arith, (omega arith, tt))) in
    omega arith
asked_within service.Vehicle query short =
    let given = given_within query in
    let all = object_within 295112 (asked_rows service.Vehicle query) (
      given DIRECTION_REF.now short (omega arith),
      (
        given LINE_REF.now short (omega arith),
        (
          given VEHICLE_REF.now short (omega arith),
          tt,
        ),
      ),
    ) in
    omega arith
asked_within service.Situation query short =
    let given = given_within query in
    let all = object_within 295112 (asked_rows service.Situation query) (
      given LINE_REF.now short (omega arith),
      (
        given OPERATOR_REF.now short (omega arith),
        (
          given PREVIEW_INTERVAL.now short (omega arith),
          (
            given START_TIME.now short (omega arith),
            (
              given STOP_POINT_REF.now short (omega arith),
              tt,
            ),
          ),
        ),
      ),
    ) in
    omega arith

-- ---- the document

named_within : (s : Service) → length (request_name s) ≤ 32
named_within service.Stop = omega arith
named_within service.Timetable = omega arith
named_within service.Vehicle = omega arith
named_within service.Situation = omega arith

-- the document of a query of at most 16,384 bytes has at most as many as a document may have
pub document_within : (s : Service) (query : List ℕ) → length query ≤ 16384
    → length (compact_text (document_tree s query)) ≤ longest_document
document_within s query short =
    let requests = list_of_one (request_name s) (asked_of s query) in
    let request = row_object ((SERVICE_REQUEST.now, Some requests) ∷ []) in
    let asked = asked_within s query short in
    let listed = list_within (request_name s) (asked_of s query) (named_within s) in
    let inside = one_row_within SERVICE_REQUEST.now requests (omega arith) in
    let outside = one_row_within SIRI.now request (omega arith) in
    let printed = print_within false (tokens_of (document_tree s query)) in
    subst (λ (text : List ℕ). length text ≤ longest_document) (document_said s query) (omega arith)

-- the same of the tokens that are printed
pub document_short : (s : Service) (target query text : List ℕ) → length target ≤ 16384 → query ≡ query_in target
    → text ≡ print ([] ++ tokens_of (document_tree s query)) → length text ≤ longest_document
document_short s target query text short is printed =
    let within : length query ≤ 16384 = rw is (omega (arith, length-drop (position_or_len (λ (b : ℕ). b == 63) target + 1) target)) in
    subst (λ (t : List ℕ). length t ≤ longest_document) (sym (printed ∙ document_said s query)) (document_within s query within)
