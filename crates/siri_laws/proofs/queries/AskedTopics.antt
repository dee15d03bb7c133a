-- What a query of a topic's own pairs asks: the topic, with texts for its numbers.
use Rattle.std.proofs.Common.{◌≡◌, ℕ, ℤ, false, List, [], ◌∷◌, ◌++◌, map, length, nat_lt, Option, Some, None, refl, sym, ap, ◌∙◌, arith, nat_cmp, Ordering, Less, Equal, Greater}
use Rattle.std.specs.Prelude.{option_map, option_and_then, flat_map, ⊤}
use Rattle.std.proofs.lemmas.Bool.{ltb-false}
use Rattle.std.specs.Cmp.Lexicographic.{slice_cmp}
use Rattle.std.specs.Ordering.{match_ordering}
use Rattle.std.specs.List.{AllByRecursion}
use Rattle.serde_json.specs.Data.{Data, object, Members, no_members, member as one_member, put}
use Rattle.siri_json.specs.Canonical.{as_texts, members_as_texts}
use Rattle.siri_records.specs.declared.item.Service.TheVariants as service
use Rattle.siri_topic.specs.declared.topics.LineDirection.{LineDirection}
use Rattle.siri_topic.specs.declared.topics.SituationTopic.{SituationTopic}
use Rattle.siri_topic.specs.declared.topics.StopTopic.{StopTopic}
use Rattle.siri_topic.specs.declared.topics.TimetableTopic.{TimetableTopic}
use Rattle.siri_topic.specs.declared.topics.Topic.{Topic}
use Rattle.siri_topic.specs.declared.topics.Topic.TheVariants as topics
use Rattle.siri_topic.specs.declared.topics.VehicleTopic.{VehicleTopic}
use Rattle.siri_items.specs.declared.names.TheConstants.{MONITORING_REF, LINE_REF, DIRECTION_REF, OPERATOR_REF}
use Rattle.siri_items.specs.declared.names.TheConstants.{DESTINATION_REF, START_TIME, VEHICLE_REF, STOP_POINT_REF}
use Rattle.siri_tables.specs.Tables.{Table, AllProper, all_written}
use Rattle.siri_tables.specs.Writing.{Row, put_row, with_rows, row_object, written_list, written_text, written_number, written_moment, written_span}
use Rattle.siri_tables.proofs.CanonicalParts.{IsRowWithin}
use Rattle.siri_tables.proofs.TableLaws.{AllLaws, optional_laws, mandatory_laws}
use Rattle.siri_tables.proofs.ValueLaws.{name_laws}
use Rattle.siri_deliveries.specs.declared.names.TheConstants.{PREVIEW_INTERVAL, MAXIMUM_STOP_VISITS, LINES}
use Rattle.siri_deliveries.specs.Topics.{stop_topic_table, line_direction_table, timetable_topic_table, vehicle_topic_table, situation_topic_table}
use Rattle.siri_deliveries.specs.Topics.{written_stop_topic, written_line_direction, written_lines, written_timetable_topic, written_vehicle_topic}
use Rattle.siri_deliveries.specs.Topics.{written_situation_topic, written_topic, IsProperTopic}
use Rattle.siri_wire.proofs.RequestTables.{stop_topic_laws, timetable_topic_laws, vehicle_topic_laws, situation_topic_laws}
use Rattle.siri_queries.specs.Documents.{asked_of, names_of, one_line}
use Rattle.siri_queries.specs.Targets.{rows_of, form_of, value_text}
use Rattle.siri_laws.proofs.queries.RowTexts.{either, row_text, again, row_given, given_again}
use Rattle.siri_topic.specs.Services.{service_asked}

-- ---- rows with texts for their numbers

abbrev with_texts : Row → Row
with_texts row = (row.0, option_map as_texts row.1)

choice_texts : (o : Ordering) (k l : List ℕ) (d e : Data) (ms rest : Members)
    → members_as_texts (match_ordering o (one_member k d (one_member l e ms)) (one_member l d ms) (one_member l e rest))
    ≡ match_ordering o (one_member k (as_texts d) (one_member l (as_texts e) (members_as_texts ms)))
    (one_member l (as_texts d) (members_as_texts ms)) (one_member l (as_texts e) (members_as_texts rest))
choice_texts Less k l d e ms rest = refl
choice_texts Equal k l d e ms rest = refl
choice_texts Greater k l d e ms rest = refl

put_texts : (k : List ℕ) (d : Data) (ms : Members) → members_as_texts (put k d ms) ≡ put k (as_texts d) (members_as_texts ms)
put_texts k d no_members = refl
put_texts k d (one_member l e ms) =
    choice_texts (slice_cmp nat_cmp k l) k l d e ms (put k d ms)
    ∙ ap (λ (rest : Members). match_ordering (slice_cmp nat_cmp k l)
    (one_member k (as_texts d) (one_member l (as_texts e) (members_as_texts ms)))
    (one_member l (as_texts d) (members_as_texts ms)) (one_member l (as_texts e) rest)) (put_texts k d ms)

put_row_texts : (k : List ℕ) (o : Option Data) (ms : Members)
    → members_as_texts (put_row k o ms) ≡ put_row k (option_map as_texts o) (members_as_texts ms)
put_row_texts k None ms = refl
put_row_texts k (Some d) ms = put_texts k d ms

rows_texts : (ms : Members) (rows : List Row) → members_as_texts (with_rows ms rows) ≡ with_rows (members_as_texts ms) (map with_texts rows)
rows_texts ms [] = refl
rows_texts ms (row ∷ rows) =
    rows_texts (put_row row.0 row.1 ms) rows
    ∙ ap (λ (before : Members). with_rows before (map with_texts rows)) (put_row_texts row.0 row.1 ms)

object_texts : (rows : List Row) → as_texts (row_object rows) ≡ row_object (map with_texts rows)
object_texts rows = ap object (rows_texts no_members rows)

-- ---- rows of a table are written canonically

joined : (most : ℕ) (xs ys : List Row) → AllByRecursion (IsRowWithin most) xs → AllByRecursion (IsRowWithin most) ys
    → AllByRecursion (IsRowWithin most) (xs ++ ys)
joined most [] ys left right = right
joined most (x ∷ xs) ys left right = (left.0, joined most xs ys left.1 right)

all_within : {S : Type 0} (most : ℕ) (t : Table S) → AllLaws most t → (s : S) → AllProper t s → AllByRecursion (IsRowWithin most) (all_written t s)
all_within most [] laws s is = tt
all_within most (r ∷ t) laws s is = joined most (r.write (r.of s)) (all_written t s) (laws.0.within (r.of s) is.0) (all_within most t laws.1 s is.1)

-- ---- a row's text is the text that its value has

text_again : (o : Option (List ℕ)) → option_and_then written_text (either (option_map value_text (option_and_then written_text o)) None)
    ≡ option_map as_texts (option_and_then written_text o)
text_again None = refl
text_again (Some text) = refl

span_again : (o : Option ℤ) → option_and_then written_text (either (option_map value_text (option_and_then written_span o)) None)
    ≡ option_map as_texts (option_and_then written_span o)
span_again None = refl
span_again (Some s) = refl

moment_again : (o : Option ℕ) → option_and_then written_text (either (option_map value_text (option_and_then written_moment o)) None)
    ≡ option_map as_texts (option_and_then written_moment o)
moment_again None = refl
moment_again (Some m) = refl

number_again : (o : Option ℕ) → option_and_then written_text (either (option_map value_text (option_and_then written_number o)) None)
    ≡ option_map as_texts (option_and_then written_number o)
number_again None = refl
number_again (Some n) = refl

-- ---- each service

stop_again : (t : StopTopic) → map (again (all_written stop_topic_table t)) (names_of service.Stop) ≡ map with_texts (all_written stop_topic_table t)
stop_again t = λ i.
    (MONITORING_REF.now, text_again (Some t.monitoring_ref) i) ∷
    (LINE_REF.now, text_again t.line_ref i) ∷
    (DIRECTION_REF.now, text_again t.direction_ref i) ∷
    (OPERATOR_REF.now, text_again t.operator_ref i) ∷
    (DESTINATION_REF.now, text_again t.destination_ref i) ∷
    (PREVIEW_INTERVAL.now, span_again t.preview_interval i) ∷
    (START_TIME.now, moment_again t.start_time i) ∷
    (MAXIMUM_STOP_VISITS.now, number_again t.maximum_stop_visits i) ∷ []

vehicle_again : (t : VehicleTopic) → map (again (all_written vehicle_topic_table t)) (names_of service.Vehicle) ≡ map with_texts (all_written vehicle_topic_table t)
vehicle_again t = λ i.
    (VEHICLE_REF.now, text_again t.vehicle_ref i) ∷
    (LINE_REF.now, text_again t.line_ref i) ∷
    (DIRECTION_REF.now, text_again t.direction_ref i) ∷ []

situation_again : (t : SituationTopic)
    → map (again (all_written situation_topic_table t)) (names_of service.Situation) ≡ map with_texts (all_written situation_topic_table t)
situation_again t = λ i.
    (LINE_REF.now, text_again t.line_ref i) ∷
    (STOP_POINT_REF.now, text_again t.stop_point_ref i) ∷
    (OPERATOR_REF.now, text_again t.operator_ref i) ∷
    (PREVIEW_INTERVAL.now, span_again t.preview_interval i) ∷
    (START_TIME.now, moment_again t.start_time i) ∷ []

-- one line at most, so that one query can ask it
abbrev pub HasOneLine : Topic → Type 0
HasOneLine (topics.Timetable t) = nat_lt 1 (length t.lines) ≡ false
HasOneLine other = ⊤

-- the rows of a timetable, with those of its lines behind them
abbrev timetable_with : Option ℤ → Option (List ℕ) → List LineDirection → List Row
timetable_with span operator lines =
    (PREVIEW_INTERVAL.now, option_and_then written_span span) ∷
    (OPERATOR_REF.now, option_and_then written_text operator) ∷
    flat_map (all_written line_direction_table) lines

line_again : (line : List ℕ) (direction : Option (List ℕ))
    → one_line (Some line) (either (option_map value_text (option_and_then written_text direction)) None)
    ≡ option_map as_texts (written_lines (record { line_ref = line; direction_ref = direction } ∷ []))
unfolding written_list written_line_direction
line_again line None = refl
line_again line (Some direction) = refl

no_line_again : None ≡ option_map as_texts (written_lines [])
unfolding written_list
no_line_again = refl

timetable_again : (span : Option ℤ) (operator : Option (List ℕ)) (lines : List LineDirection) → nat_lt 1 (length lines) ≡ false
    → map (again (timetable_with span operator lines)) (names_of service.Timetable)
    ++ ((LINES.now, one_line (row_text LINE_REF.now (timetable_with span operator lines)) (row_text DIRECTION_REF.now (timetable_with span operator lines))) ∷ [])
    ≡ map with_texts
    ((PREVIEW_INTERVAL.now, option_and_then written_span span) ∷ (OPERATOR_REF.now, option_and_then written_text operator) ∷ (LINES.now, written_lines lines) ∷ [])
timetable_again span operator [] few = λ i.
    (PREVIEW_INTERVAL.now, span_again span i) ∷ (OPERATOR_REF.now, text_again operator i) ∷ (LINES.now, no_line_again i) ∷ []
timetable_again span operator (l ∷ []) few = λ i.
    (PREVIEW_INTERVAL.now, span_again span i) ∷ (OPERATOR_REF.now, text_again operator i) ∷ (LINES.now, line_again l.line_ref l.direction_ref i) ∷ []
timetable_again span operator (l ∷ m ∷ ls) few = absurd (omega (arith, ltb-false 1 (length (l ∷ m ∷ ls)) few))

line_rows : AllLaws 3 line_direction_table
line_rows = search (optional_laws, mandatory_laws, name_laws)

lines_within : (lines : List LineDirection) → AllByRecursion (AllProper line_direction_table) lines
    → AllByRecursion (IsRowWithin 3) (flat_map (all_written line_direction_table) lines)
lines_within [] each = tt
lines_within (l ∷ ls) each =
    joined 3 (all_written line_direction_table l) (flat_map (all_written line_direction_table) ls)
    (all_within 3 line_direction_table line_rows l each.0) (lines_within ls each.1)

timetable_within : (t : TimetableTopic) → AllProper timetable_topic_table t → AllByRecursion (IsRowWithin 3) (rows_of (topics.Timetable t))
timetable_within t p =
    let laws = timetable_topic_laws.rows in (
      (laws.0.within t.preview_interval p.0).0,
      ((laws.1.0.within t.operator_ref p.1.0).0, lines_within t.lines p.1.1.0.each),
    )

-- what the query of a topic asks is the topic, with texts for its numbers
pub asked_is : (t : Topic) → IsProperTopic (service_asked t) t → HasOneLine t → asked_of (service_asked t) (form_of t) ≡ as_texts (written_topic t)
unfolding written_topic written_stop_topic written_timetable_topic written_vehicle_topic written_situation_topic
asked_is (topics.Stop t) p one =
    let rows = all_written stop_topic_table t in
    ap (λ (rs : List Row). row_object (rs ++ [])) (given_again 3 rows (names_of service.Stop) (all_within 3 stop_topic_table stop_topic_laws.rows t p))
    ∙ ap row_object (stop_again t)
    ∙ sym (object_texts rows)
asked_is (topics.Timetable t) p one =
    let rows = timetable_with t.preview_interval t.operator_ref t.lines in
    let within = timetable_within t p in
    (λ i. row_object (given_again 3 rows (names_of service.Timetable) within i
    ++ ((LINES.now, one_line (row_given 3 LINE_REF.now rows within i) (row_given 3 DIRECTION_REF.now rows within i)) ∷ [])))
    ∙ ap row_object (timetable_again t.preview_interval t.operator_ref t.lines one)
    ∙ sym (object_texts (all_written timetable_topic_table t))
asked_is (topics.Vehicle t) p one =
    let rows = all_written vehicle_topic_table t in
    ap (λ (rs : List Row). row_object (rs ++ [])) (given_again 3 rows (names_of service.Vehicle) (all_within 3 vehicle_topic_table vehicle_topic_laws.rows t p))
    ∙ ap row_object (vehicle_again t)
    ∙ sym (object_texts rows)
asked_is (topics.Situation t) p one =
    let rows = all_written situation_topic_table t in
    ap (λ (rs : List Row). row_object (rs ++ []))
    (given_again 3 rows (names_of service.Situation) (all_within 3 situation_topic_table situation_topic_laws.rows t p))
    ∙ ap row_object (situation_again t)
    ∙ sym (object_texts rows)
